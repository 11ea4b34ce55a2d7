-- Each holder's cell freed where it bears the name gives the card with the transaction released; its core with its numbers
-- lowered is the retired one; with the tail moved they are the card after a transaction is retired, framed.
use Rattle.model.proofs.Base.{ℕ, ◌+◌, ◌-◌, ◌≤◌, ◌<◌, arith, ◌≡◌, refl, sym, ap, ◌∙◌, Bool, true, false, List, length, get_or, set}
use Rattle.model.proofs.Base.{length-set, get_or-set_same, get_or-set_other, eqb, ne_eqb, eqb-true, eqb-false, below}
use mathlib.Core.List.{map-map}
use Rattle.model.specs.Card.{new_name, same_name, new_holder, shape_of, core_of, with_arrays, with_core}
use Rattle.model.specs.Checkpoint.{freed, released, moved_tail, retired_core, retired_card}
use Rattle.model.specs.declared.Name.{Name}
use Rattle.model.specs.declared.Tail.{Tail}
use Rattle.model.specs.declared.Card.{Card}
use Rattle.model.specs.declared.Committed.{Committed}
use Rattle.model.proofs.Lists.{cases, map_below}
use Rattle.cells.specs.Cells.{first_holder, name_in, holder_in, card_in, tail_place, holder_place, core_place}
use Rattle.model.specs.declared.Core.{Core}
use Rattle.cells.specs.declared.cores.CoreNumbers.{CoreNumbers}
use Rattle.cells.specs.Changes.{fits_at, AllFit, Frame, numbers_of, with_numbers, with_tail}
use Rattle.cells.proofs.FitsLaws.{fits_zero, fits_set, frame_then, frame_same, frame_wider}
use Rattle.cells.proofs.CoreLaws.{holders_put}
use Rattle.retire.specs.Released.{with_released, Freed}

-- ---- a holder's cell
module _ (n : Name) (x : ℕ) where
  pub freed_none : x ≡ 0 → Freed n x 0
  unfolding holder_in
  freed_none e = record { holder = rw e; fits = λ i f. fits_zero i }

  module _ (h : x ≡ 0 → ⊥) (m : Name) (e : m ≡ name_in (x - 1)) (g : Bool) (q : g ≡ same_name m n) where
    held_by : holder_in x ≡ new_holder m
    unfolding holder_in
    held_by = rw (ne_eqb x 0 h, e)

    pub freed_own : g ≡ true → Freed n x 0
    unfolding holder_in
    freed_own t = record { holder = sym (ap (freed n) held_by ∙ rw (← q, t)); fits = λ i f. fits_zero i }

    pub freed_other : g ≡ false → Freed n x x
    freed_other t = record { holder = held_by ∙ sym (ap (freed n) held_by ∙ rw (← q, t)); fits = λ i f. f }

-- ---- one holder after another
-- the first i are done
pub record Releasing (n : Name) (v w : List ℕ) (i : ℕ) : Type 0 where
  pub most : i ≤ 64
  pub frame : Frame v w first_holder 64
  pub made : (b : ℕ) → b < i → holder_in (get_or w (holder_place b) 0) ≡ freed n (holder_in (get_or v (holder_place b) 0))
  pub left : (b : ℕ) → i ≤ b → get_or w (holder_place b) 0 ≡ get_or v (holder_place b) 0

-- a cell replaced by a value that fits where the one before did
frame_kept : (v : List ℕ) (a n j x : ℕ) → a ≤ j → j < a + n → j < 423 → (fits_at j (get_or v j 0) ≡ true → fits_at j x ≡ true) → Frame v (set v j x) a n
unfolding AllFit
frame_kept v a n j x p q h e =
    record {
      size = length-set v j x;
      low = λ i l. get_or-set_other v j i x 0 (omega arith);
      high = λ i l. get_or-set_other v j i x 0 (omega arith);
      fits = λ f. fits_set v j x (e (f j h)) f;
    }

holders_freed : (n : Name) (v w : List ℕ) → ((b : ℕ) → b < 64 → holder_in (get_or w (holder_place b) 0) ≡ freed n (holder_in (get_or v (holder_place b) 0)))
    → (card_in w).holders ≡ released n (card_in v).holders
unfolding card_in released
holders_freed n v w e =
    map_below (λ (b : ℕ). holder_in (get_or w (holder_place b) 0)) (λ (b : ℕ). freed n (holder_in (get_or v (holder_place b) 0))) 64 e
    ∙ sym (map-map (freed n) (λ (b : ℕ). holder_in (get_or v (holder_place b) 0)) (below 64))

module _ (n : Name) (v : List ℕ) where
  pub release_start : Releasing n v v 0
  release_start = record { most = omega arith; frame = frame_same v first_holder 64; made = λ b h. absurd (omega arith); left = λ b h. refl }

  module _ (w : List ℕ) (i : ℕ) (s : Releasing n v w i) where
    pub release_end : 64 ≤ i → card_in w ≡ with_released (card_in v) n
    release_end h =
        holders_put v w s.frame
        ∙ ap (with_arrays (card_in v) (card_in v).tails (card_in v).cores) (holders_freed n v w (λ b l. s.made b (omega (arith, s.most))))

    module _ (size : length v ≡ 423) (h : i < 64) where
      pub release_in : holder_place i < length w
      release_in = omega (arith, s.frame.size)

      pub release_more : (r : ℕ) → Freed n (get_or w (holder_place i) 0) r → Releasing n v (set w (holder_place i) r) (i + 1)
      release_more r f =
          record {
            most = omega arith;
            frame =
                frame_then w (set w (holder_place i) r) v first_holder 64 s.frame
                (frame_kept w first_holder 64 (holder_place i) r (omega arith) (omega arith) (omega arith) (f.fits (holder_place i)));
            made = λ b l. cases (eqb b i)
                (λ t. let z : b ≡ i = eqb-true b i t in
                rw z (ap holder_in (get_or-set_same w (holder_place i) r 0 release_in) ∙ f.holder ∙ ap (λ (k : ℕ). freed n (holder_in k)) (s.left i (omega arith))))
                (λ t. let z : b ≡ i → ⊥ = eqb-false b i t in
                ap holder_in (get_or-set_other w (holder_place i) (holder_place b) r 0 (omega arith)) ∙ s.made b (omega arith));
            left = λ b l. get_or-set_other w (holder_place i) (holder_place b) r 0 (omega arith) ∙ s.left b (omega arith);
          }

-- ---- a core's numbers
pub core_retired : (k : Core) (n : CoreNumbers) → n ≡ numbers_of k → (e : Committed) (used : ℕ) → used ≡ n.used - (e.count + 2) → with_numbers k n.next used n.stored 0 ≡ retired_core k e
core_retired k n i e used r = rw (r, i)

-- ---- the card
made_retired : (c : ℕ) (e : Committed) (x : Card) (t : Tail) → t ≡ moved_tail (shape_of x) e
    → (u : Card) → u ≡ with_tail x c t → (y : Card) → y ≡ with_core u c (retired_core (core_of u c) e)
    → (z : Card) → z ≡ with_released y (new_name e.core e.number) → z ≡ retired_card c e x
unfolding retired_card core_of
made_retired c e x t q u a y b z d = d ∙ rw (b, a, q)

module _ (v u y z : List ℕ) (c : ℕ) (h : c < 8) (e : Committed) (t : Tail) (q : t ≡ moved_tail (shape_of (card_in v)) e) where
  pub retired_card_lem : card_in u ≡ with_tail (card_in v) c t → card_in y ≡ with_core (card_in u) c (retired_core (core_of (card_in u) c) e)
      → card_in z ≡ with_released (card_in y) (new_name e.core e.number) → card_in z ≡ retired_card c e (card_in v)
  retired_card_lem a b d = made_retired c e (card_in v) t q (card_in u) a (card_in y) b (card_in z) d

pub retired_frame : (v u y z : List ℕ) (c : ℕ) → c < 8 → Frame v u (tail_place c) 2 → Frame u y (core_place c) 4 → Frame y z first_holder 64 → Frame v z 0 423
retired_frame v u y z c h a b d =
    frame_then y z v 0 423
    (frame_then u y v 0 423 (frame_wider v u (tail_place c) 2 0 423 a (omega arith) (omega arith)) (frame_wider u y (core_place c) 4 0 423 b (omega arith) (omega arith)))
    (frame_wider y z first_holder 64 0 423 d (omega arith) (omega arith))
