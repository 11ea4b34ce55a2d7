-- The cells of the running transaction copied, stamped and cleared are the core with it frozen; with its number and the
-- stamp count raised they are the card after CLOSE, framed.
use Rattle.model.proofs.Base.{ℕ, ◌+◌, ◌%◌, ◌^◌, ◌≤◌, ◌<◌, arith, ◌≡◌, refl, sym, ap, ◌∙◌, true, not, List, length, get_or, set}
use Rattle.model.proofs.Base.{length-set, get_or-set_same, get_or-set_other, eqb, eqb-true, eqb-false}
use Rattle.model.specs.Card.{no_transaction, stamped, core_of, with_core}
use Rattle.model.specs.Commit.{closed_card}
use Rattle.model.specs.declared.Transaction.{Transaction}
use Rattle.model.proofs.Lists.{cases, map_below}
use Rattle.cells.specs.Cells.{transaction_in, card_in, core_place, running_place, closed_place}
use Rattle.cells.specs.Changes.{with_closed, fits_at, AllFit, Frame}
use Rattle.cells.proofs.FitsLaws.{running_place_lem, closed_place_lem, fits_at_lem, fits_stamp, fits_closes, fits_set, frame_same, frame_set, frame_then, frame_wider}
use Rattle.cells.proofs.TransactionLaws.{transaction_cong}
use Rattle.cells.proofs.CellLaws.{running_put}
use Rattle.cells.proofs.CoreLaws.{core_of_with, with_core_twice, closed_put, closes_put}
use Rattle.close.specs.Frozen.{frozen, counted_close}
use Rattle.cells.proofs.ReadLaws.{running_there}

-- ---- a transaction copied, cell by cell
transaction_moved : (v w : List ℕ) (a b : ℕ) → ((k : ℕ) → k < 19 → get_or w (b + k) 0 ≡ get_or v (a + k) 0) → transaction_in w b ≡ transaction_in v a
unfolding transaction_in
transaction_moved v w a b e =
    transaction_cong _ _ _ _ _ _ _ _ _ _
    (ap (λ (n : ℕ). not (eqb n 0)) (at 0 b a (omega arith) (omega arith) (omega arith)))
    (e 1 (omega arith))
    (ap (λ (n : ℕ). n % 256) (e 2 (omega arith)))
    (map_below _ _ 8 (λ i h. ap (λ (n : ℕ). n % 256) (at (3 + i) (b + 3 + i) (a + 3 + i) (omega arith) (omega arith) (omega arith))))
    (map_below _ _ 8 (λ i h. ap (λ (n : ℕ). n % 4294967296) (at (11 + i) (b + 11 + i) (a + 11 + i) (omega arith) (omega arith) (omega arith))))
  where
    at : (k i j : ℕ) → i ≡ b + k → j ≡ a + k → k < 19 → get_or w i 0 ≡ get_or v j 0
    at k i j p q h = rw (p, q) (e k h)

-- w is v with the first i cells of core c's running transaction at the place of its closed one
pub record Moved (v : List ℕ) (c : ℕ) (w : List ℕ) (i : ℕ) : Type 0 where
  pub most : i ≤ 19
  pub rest : Frame v w (closed_place c) 19
  pub same : (k : ℕ) → k < i → get_or w (closed_place c + k) 0 ≡ get_or v (running_place c + k) 0

pub moved_start : (v : List ℕ) (c : ℕ) → Moved v c v 0
moved_start v c = record { most = omega arith; rest = frame_same v (closed_place c) 19; same = λ k h. absurd (omega arith) }

module _ (v : List ℕ) (c : ℕ) (w : List ℕ) (i : ℕ) (m : Moved v c w i) (from to : ℕ) (p : from ≡ running_place c) (q : to ≡ closed_place c) where
  module _ (size : length v ≡ 423) (h : c < 8) (l : i < 19) where
    -- both cells stand within the array
    pub from_in : from + i < length w
    from_in = omega (arith, m.rest.size)

    pub to_in : to + i < length w
    to_in = omega (arith, m.rest.size)

    -- the cell that is read is still the one of v
    cell_read : get_or w (running_place c + i) 0 ≡ get_or v (running_place c + i) 0
    cell_read = m.rest.low (running_place c + i) (omega arith)

    -- and fits where it is put
    cell_fits : AllFit v → fits_at (closed_place c + i) (get_or w (running_place c + i) 0) ≡ true
    unfolding AllFit
    cell_fits f =
        let r = running_place_lem c h in
        let s = closed_place_lem c h in
        ap (fits_at (closed_place c + i)) cell_read
        ∙ fits_at_lem (closed_place c) s.0 s.1 s.2 i _ l
        ∙ sym (fits_at_lem (running_place c) r.0 r.1 r.2 i _ l)
        ∙ f (running_place c + i) (omega arith)

    put_next : Frame v (set w (closed_place c + i) (get_or w (running_place c + i) 0)) (closed_place c) 19
    put_next =
        record {
          size = length-set w (closed_place c + i) (get_or w (running_place c + i) 0) ∙ m.rest.size;
          low = λ k z. get_or-set_other w (closed_place c + i) k _ 0 (omega arith) ∙ m.rest.low k z;
          high = λ k z. get_or-set_other w (closed_place c + i) k _ 0 (omega arith) ∙ m.rest.high k z;
          fits = λ f. fits_set w (closed_place c + i) _ (cell_fits f) (m.rest.fits f);
        }

    same_next : (k : ℕ) → k < i + 1 → get_or (set w (closed_place c + i) (get_or w (running_place c + i) 0)) (closed_place c + k) 0 ≡ get_or v (running_place c + k) 0
    same_next k z =
        cases (eqb k i)
        (λ t. let y : k ≡ i = eqb-true k i t in
        rw y (get_or-set_same w (closed_place c + i) _ 0 (omega (arith, m.rest.size)) ∙ cell_read))
        (λ t. let y : k ≡ i → ⊥ = eqb-false k i t in
        get_or-set_other w (closed_place c + i) (closed_place c + k) _ 0 (omega arith) ∙ m.same k (omega arith))

    pub moved_more : Moved v c (set w (to + i) (get_or w (from + i) 0)) (i + 1)
    moved_more = rw (p, q) (record { most = omega arith; rest = put_next; same = same_next })

  pub moved_all : 19 ≤ i → transaction_in w (closed_place c) ≡ transaction_in v (running_place c)
  moved_all l = transaction_moved v w (running_place c) (closed_place c) (λ k z. m.same k (omega arith))

-- ---- it is stamped, and none is running
stamp_put : (w : List ℕ) (a s : ℕ) → a + 19 ≤ length w → transaction_in (set w (a + 1) s) a ≡ stamped (transaction_in w a) s
unfolding transaction_in
stamp_put w a s f =
    transaction_cong _ _ _ _ _ _ _ _ _ _
    (ap (λ (n : ℕ). not (eqb n 0)) (other a (omega arith)))
    (get_or-set_same w (a + 1) s 0 (omega arith))
    (ap (λ (n : ℕ). n % 256) (other (a + 2) (omega arith)))
    (map_below _ _ 8 (λ i h. ap (λ (n : ℕ). n % 256) (other (a + 3 + i) (omega arith))))
    (map_below _ _ 8 (λ i h. ap (λ (n : ℕ). n % 4294967296) (other (a + 11 + i) (omega arith))))
  where
    other : (m : ℕ) → (m ≡ a + 1 → ⊥) → get_or (set w (a + 1) s) m 0 ≡ get_or w m 0
    other m g = get_or-set_other w (a + 1) m s 0 g

module _ (v u : List ℕ) (c : ℕ) (size : length v ≡ 423) (h : c < 8) (f : Frame v u (closed_place c) 19) (to : ℕ) (q : to ≡ closed_place c) where
  pub stamp_in : to + 1 < length u
  stamp_in = omega (arith, f.size)

  module _ (s : ℕ) where
    stamp_frame : Frame v (set u (closed_place c + 1) s) (closed_place c) 19
    stamp_frame =
        let r = closed_place_lem c h in
        frame_then u (set u (closed_place c + 1) s) v (closed_place c) 19 f
        (frame_set u (closed_place c) 19 (closed_place c + 1) s (omega arith) (omega arith) (fits_stamp (closed_place c) r.0 r.1 r.2 s))

    pub stamp_long : length (set u (to + 1) s) ≡ 423
    stamp_long = length-set u (to + 1) s ∙ f.size ∙ size

    module _ (from : ℕ) (p : from ≡ running_place c) (w : List ℕ) (g : Frame (set u (to + 1) s) w from 19) where
      cleared_frame : Frame (set u (closed_place c + 1) s) w (running_place c) 19
      cleared_frame = rw (q, p) at g

      pub frozen_frame : Frame v w (core_place c) 42
      frozen_frame =
          frame_then (set u (closed_place c + 1) s) w v (core_place c) 42
          (frame_wider v _ (closed_place c) 19 (core_place c) 42 stamp_frame (omega arith) (omega arith))
          (frame_wider _ w (running_place c) 19 (core_place c) 42 cleared_frame (omega arith) (omega arith))

      pub frozen_size : length w ≡ length v
      frozen_size = frozen_frame.size

      pub frozen_card : transaction_in u (closed_place c) ≡ transaction_in v (running_place c) → transaction_in w from ≡ no_transaction → card_in w ≡ with_core (card_in v) c (frozen (core_of (card_in v) c) s)
      frozen_card e z =
          let k = core_of (card_in v) c in
          let t : transaction_in (set u (closed_place c + 1) s) (closed_place c) ≡ stamped k.running s =
          stamp_put u (closed_place c) s (omega (arith, f.size)) ∙ ap (λ (a : Transaction). stamped a s) (e ∙ running_there v c h (running_place c) refl) in
          let x : card_in (set u (closed_place c + 1) s) ≡ with_core (card_in v) c (with_closed k (stamped k.running s)) =
          closed_put v (set u (closed_place c + 1) s) c h stamp_frame ∙ ap (λ (a : Transaction). with_core (card_in v) c (with_closed k a)) t in
          let y : transaction_in w (running_place c) ≡ no_transaction = ap (transaction_in w) (sym p) ∙ z in
          running_put (set u (closed_place c + 1) s) w c h cleared_frame
          ∙ rw (x, y, core_of_with v c h (with_closed k (stamped k.running s))) (with_core_twice (card_in v) c _ _)

-- ---- a running transaction closed
closes_read : (w : List ℕ) → get_or w 4 0 ≡ (card_in w).closes
unfolding card_in
closes_read w = refl

module _ (v u t : List ℕ) (c : ℕ) (size : length v ≡ 423) (h : c < 8) (g : Frame v u (core_place c) 42) where
  pub frozen_long : length u ≡ 423
  frozen_long = g.size ∙ size

  module _ (j : Frame u t (core_place c) 4) where
    pub closes_in : 4 < length t
    closes_in = omega (arith, g.size, j.size)

    module _ (s : ℕ) where
      core_frame : Frame v t (core_place c) 42
      core_frame = frame_then u t v (core_place c) 42 g (frame_wider u t (core_place c) 4 (core_place c) 42 j (omega arith) (omega arith))

      closes_frame : Frame t (set t 4 s) 4 1
      closes_frame = frame_set t 4 1 4 s (omega arith) (omega arith) (fits_closes s)

      pub closed_frame : Frame v (set t 4 s) 0 423
      closed_frame =
          frame_then t (set t 4 s) v 0 423 (frame_wider v t (core_place c) 42 0 423 core_frame (omega arith) (omega arith))
          (frame_wider t (set t 4 s) 4 1 0 423 closes_frame (omega arith) (omega arith))

      pub closed_size : length (set t 4 s) ≡ length v
      closed_size = closed_frame.size

      pub closed_card_lem : s ≡ (get_or v 4 0 + 1) % 2 ^ 64 → card_in u ≡ with_core (card_in v) c (frozen (core_of (card_in v) c) s) → card_in t ≡ with_core (card_in u) c (counted_close (core_of (card_in u) c))
          → card_in (set t 4 s) ≡ closed_card (card_in v) c
      unfolding closed_card
      closed_card_lem e f i =
          let k = frozen (core_of (card_in v) c) s in
          let x : card_in t ≡ with_core (card_in v) c (counted_close k) =
          i ∙ rw (f, core_of_with v c h k) (with_core_twice (card_in v) c k (counted_close k)) in
          let y : get_or (set t 4 s) 4 0 ≡ s = get_or-set_same t 4 s 0 closes_in in
          let z : s ≡ ((card_in v).closes + 1) % 2 ^ 64 = e ∙ ap (λ (n : ℕ). (n + 1) % 2 ^ 64) (closes_read v) in
          closes_put t (set t 4 s) closes_frame ∙ rw (x, y, z)
