-- Cells zeroed are the blank card; with the phase put they are the card that is down; with shape and tails put, core by
-- core, the card that has come up. Each is framed.
use Rattle.model.proofs.Base.{ℕ, zero, suc, ◌+◌, ◌%◌, ◌≤◌, ◌<◌, arith, ◌≡◌, refl, sym, ap, ◌∙◌, List, [], ◌∷◌, map, length}
use Rattle.model.proofs.Base.{get_or, set, replicate, length-set, length-replicate, get_or-replicate, get_or-set_same, get_or-set_other}
use mathlib.Core.List.{map-id}
use lib.ListN.{get_or-eq_default}
use Rattle.model.specs.Card.{fresh_core, fresh_card, empty_card, blank_card, down_card, core_of, with_arrays, with_core}
use Rattle.model.specs.declared.Phase.TheVariants.{Up}
use Rattle.model.specs.declared.Shape.{Shape}
use Rattle.model.specs.declared.Tail.{Tail}
use Rattle.model.specs.declared.Core.{Core}
use Rattle.model.specs.declared.Card.{Card}
use Rattle.cells.specs.Cells.{phase_in, card_in, cells_of, core_place, tail_place}
use Rattle.cells.specs.Changes.{with_numbers, with_tail, up_with, fits_at, AllFit, Frame}
use Rattle.cells.proofs.Parts.{filled, filled_none, filled_more, filled_all}
use Rattle.cells.proofs.FitsLaws.{fits_zero, fits_phase, fits_field, frame_same, frame_set, frame_then, frame_wider}
use Rattle.cells.proofs.ReadLaws.{length_tabled}
use Rattle.cells.proofs.CellLaws.{card_cong, shape_cong}
use Rattle.cells.proofs.ExactLaws.{blank_read, blank_cells, down_read, down_cells}
use Rattle.cells.proofs.CoreLaws.{tails_kept, cores_kept, holders_kept}

-- ---- zeros
abbrev zeros : List ℕ
zeros = replicate 423 0

pub blank_left : zeros ≡ cells_of blank_card 0
blank_left = sym blank_cells

pub blank_seen : card_in zeros ≡ blank_card
blank_seen = blank_read

pub blank_frame : (v : List ℕ) → length v ≡ 423 → Frame v zeros 0 423
unfolding AllFit
blank_frame v size =
    record {
      size = length-replicate {A = ℕ} 423 0 ∙ sym size;
      low = λ i h. absurd (omega arith);
      high = λ i h. get_or-eq_default zeros 0 (let b : length zeros ≤ i = omega arith in b) ∙ sym (get_or-eq_default v 0 (let b : length v ≤ i = omega arith in b));
      fits = λ f i h. ap (fits_at i) (get_or-replicate 423 i 0 0 h) ∙ fits_zero i;
    }

-- ---- down
module _ (v w : List ℕ) (e : w ≡ cells_of blank_card 0) where
  pub down_left : set w 0 2 ≡ cells_of down_card 0
  down_left = ap (λ (u : List ℕ). set u 0 2) (e ∙ blank_cells) ∙ sym down_cells

  pub down_seen : card_in (set w 0 2) ≡ down_card
  down_seen = ap (λ (u : List ℕ). card_in (set u 0 2)) (e ∙ blank_cells) ∙ down_read

pub down_frame : (v w : List ℕ) → Frame v w 0 423 → Frame v (set w 0 2) 0 423
down_frame v w f = frame_then w (set w 0 2) v 0 423 f (frame_set w 0 423 0 2 (omega arith) (omega arith) (fits_phase 2 (omega arith)))

-- ---- up: phase and shape
module _ (v : List ℕ) (size : length v ≡ 423) (a b j : ℕ) (p : a < 256) (q : b < 256) (r : j < 256) where
  abbrev w₁ : List ℕ
  w₁ = set v 0 1

  abbrev w₂ : List ℕ
  w₂ = set w₁ 1 a

  abbrev w₃ : List ℕ
  w₃ = set w₂ 2 b

  abbrev w₄ : List ℕ
  w₄ = set w₃ 3 j

  pub shape_frame : Frame v w₄ 0 4
  shape_frame =
      frame_then w₃ w₄ v 0 4
      (frame_then w₂ w₃ v 0 4
      (frame_then w₁ w₂ v 0 4
      (frame_set v 0 4 0 1 (omega arith) (omega arith) (fits_phase 1 (omega arith)))
      (frame_set w₁ 0 4 1 a (omega arith) (omega arith) (fits_field 1 a (omega arith) (omega arith) p)))
      (frame_set w₂ 0 4 2 b (omega arith) (omega arith) (fits_field 2 b (omega arith) (omega arith) q)))
      (frame_set w₃ 0 4 3 j (omega arith) (omega arith) (fits_field 3 j (omega arith) (omega arith) r))

  phase_put : get_or w₄ 0 0 ≡ 1
  phase_put =
      get_or-set_other w₃ 3 0 j 0 (omega arith) ∙ get_or-set_other w₂ 2 0 b 0 (omega arith) ∙ get_or-set_other w₁ 1 0 a 0 (omega arith) ∙ get_or-set_same v 0 1 0 (omega arith)

  cores_put : get_or w₄ 1 0 ≡ a
  cores_put = get_or-set_other w₃ 3 1 j 0 (omega arith) ∙ get_or-set_other w₂ 2 1 b 0 (omega arith) ∙ get_or-set_same w₁ 1 a 0 (rw (length-set v 0 1) (omega arith))

  blocks_put : get_or w₄ 2 0 ≡ b
  blocks_put = get_or-set_other w₃ 3 2 j 0 (omega arith) ∙ get_or-set_same w₂ 2 b 0 (rw (length-set w₁ 1 a, length-set v 0 1) (omega arith))

  journal_put : get_or w₄ 3 0 ≡ j
  journal_put = get_or-set_same w₃ 3 j 0 (rw (length-set w₂ 2 b, length-set w₁ 1 a, length-set v 0 1) (omega arith))

  pub shape_put : card_in w₄ ≡ up_with (card_in v) (record { cores = a; blocks = b; journal = j })
  unfolding card_in phase_in
  shape_put =
      card_cong _ _ _ _ _ _ _ _ _ _ _ _ _ _
      (ap phase_in phase_put)
      (shape_cong _ _ _ _ _ _ (ap (λ (n : ℕ). n % 256) cores_put ∙ omega arith) (ap (λ (n : ℕ). n % 256) blocks_put ∙ omega arith) (ap (λ (n : ℕ). n % 256) journal_put ∙ omega arith))
      (shape_frame.high 4 (omega arith))
      (ap (λ (n : ℕ). n % 256) (shape_frame.high 5 (omega arith)))
      (tails_kept v w₄ (λ i l h. shape_frame.high i (omega arith)))
      (cores_kept v w₄ (λ i l. shape_frame.high i (omega arith)))
      (holders_kept v w₄ (λ i l h. shape_frame.high i (omega arith)))

-- ---- up: each core begins at its tail
module _ {A B : Type 0} (f : A → B) where
  filled_at : (i : ℕ) (l : List A) (ks : List B) (d : B) → i < length l → length ks ≡ length l → get_or (filled f i l ks) i d ≡ get_or ks i d
  unfolding filled
  filled_at i [] ks d h e = absurd (omega arith)
  filled_at i (x ∷ l) [] d h e = absurd (omega arith)
  filled_at zero (x ∷ l) (k ∷ ks) d h e = refl
  filled_at (suc i) (x ∷ l) (k ∷ ks) d h e = filled_at i l ks d (omega arith) (omega arith)

-- the first c cores begin at their tails
abbrev pub begun : Card → List Tail → ℕ → Card
begun x ts c = with_arrays x (filled (λ (t : Tail). t) c ts x.tails) (filled (λ (t : Tail). fresh_core t.number) c ts x.cores) x.holders

pub record Begins (v : List ℕ) (ts : List Tail) (w : List ℕ) (c : ℕ) : Type 0 where
  pub most : c ≤ 8
  pub long : length ts ≡ 8
  pub fresh : (card_in v).cores ≡ replicate 8 (fresh_core 0)
  pub size : length w ≡ 423
  pub card : card_in w ≡ begun (card_in v) ts c
  pub rest : Frame v w 0 423

tails_long : (v : List ℕ) → length (card_in v).tails ≡ 8
unfolding card_in
tails_long v = length_tabled _ 8

cores_long : (v : List ℕ) → length (card_in v).cores ≡ 8
unfolding card_in
cores_long v = length_tabled _ 8

module _ (v : List ℕ) (ts : List Tail) where
  pub begins_none : length v ≡ 423 → (card_in v).cores ≡ replicate 8 (fresh_core 0) → length ts ≡ 8 → Begins v ts v 0
  begins_none n e l =
      record {
        most = omega arith;
        long = l;
        fresh = e;
        size = n;
        card = ap (λ (us : List Tail). with_arrays (card_in v) us (card_in v).cores (card_in v).holders) (filled_none (λ (t : Tail). t) ts (card_in v).tails)
            ∙ ap (λ (ks : List Core). with_arrays (card_in v) (filled (λ (t : Tail). t) 0 ts (card_in v).tails) ks (card_in v).holders) (filled_none (λ (t : Tail). fresh_core t.number) ts (card_in v).cores);
        rest = frame_same v 0 423;
      }

  module _ (w : List ℕ) (c : ℕ) (b : Begins v ts w c) where
    still_fresh : c < 8 → core_of (card_in w) c ≡ fresh_core 0
    unfolding core_of
    still_fresh h =
        ap (λ (x : Card). get_or x.cores c (fresh_core 0)) b.card
        ∙ filled_at (λ (t : Tail). fresh_core t.number) c ts (card_in v).cores (fresh_core 0) (omega (arith, b.long)) (cores_long v ∙ sym b.long)
        ∙ ap (λ (ks : List Core). get_or ks c (fresh_core 0)) b.fresh
        ∙ get_or-replicate 8 c (fresh_core 0) (fresh_core 0) h

    pub begins_more : (d : Tail) (u x : List ℕ) → c < 8
        → card_in u ≡ with_core (card_in w) c (with_numbers (core_of (card_in w) c) (get_or ts c d).number 0 0 0) → Frame w u (core_place c) 4
        → card_in x ≡ with_tail (card_in u) c (get_or ts c d) → Frame u x (tail_place c) 2
        → Begins v ts x (c + 1)
    begins_more d u x h e f g k =
        record {
          most = omega arith;
          long = b.long;
          fresh = b.fresh;
          size = k.size ∙ f.size ∙ b.size;
          card =
              g
              ∙ ap (λ (y : Card). with_tail y c (get_or ts c d)) (e ∙ ap (λ (y : Core). with_core (card_in w) c (with_numbers y (get_or ts c d).number 0 0 0)) (still_fresh h))
              ∙ ap (λ (y : Card). with_tail (with_core y c (fresh_core (get_or ts c d).number)) c (get_or ts c d)) b.card
              ∙ ap (λ (us : List Tail). with_arrays (card_in v) us (set (filled (λ (t : Tail). fresh_core t.number) c ts (card_in v).cores) c (fresh_core (get_or ts c d).number)) (card_in v).holders)
              (filled_more (λ (t : Tail). t) c ts (card_in v).tails d (omega (arith, b.long)) (tails_long v ∙ sym b.long))
              ∙ ap (λ (ks : List Core). with_arrays (card_in v) (filled (λ (t : Tail). t) (c + 1) ts (card_in v).tails) ks (card_in v).holders)
              (filled_more (λ (t : Tail). fresh_core t.number) c ts (card_in v).cores d (omega (arith, b.long)) (cores_long v ∙ sym b.long));
          rest =
              frame_then u x v 0 423
              (frame_then w u v 0 423 b.rest (frame_wider w u (core_place c) 4 0 423 f (omega arith) (omega arith)))
              (frame_wider u x (tail_place c) 2 0 423 k (omega arith) (omega arith));
        }

    pub begins_all : 8 ≤ c → card_in w ≡ with_arrays (card_in v) ts (map (λ (t : Tail). fresh_core t.number) ts) (card_in v).holders
    begins_all h =
        b.card
        ∙ ap (λ (us : List Tail). with_arrays (card_in v) us (filled (λ (t : Tail). fresh_core t.number) c ts (card_in v).cores) (card_in v).holders)
        (filled_all (λ (t : Tail). t) c ts (card_in v).tails (tails_long v ∙ sym b.long) (omega (arith, b.long)) ∙ map-id ts)
        ∙ ap (λ (ks : List Core). with_arrays (card_in v) ts ks (card_in v).holders)
        (filled_all (λ (t : Tail). fresh_core t.number) c ts (card_in v).cores (cores_long v ∙ sym b.long) (omega (arith, b.long)))

-- ---- up
module _ (s : Shape) (u v : List ℕ) (e : card_in u ≡ blank_card) (f : card_in v ≡ up_with (card_in u) s) where
  up_blank : card_in v ≡ up_with blank_card s
  up_blank = f ∙ ap (λ (x : Card). up_with x s) e

  pub up_fresh : (card_in v).cores ≡ replicate 8 (fresh_core 0)
  unfolding blank_card empty_card fresh_card
  up_fresh = ap (λ (x : Card). x.cores) up_blank

  pub up_seen : (ts : List Tail) (w : List ℕ) → card_in w ≡ with_arrays (card_in v) ts (map (λ (t : Tail). fresh_core t.number) ts) (card_in v).holders → card_in w ≡ fresh_card Up s ts
  unfolding blank_card empty_card fresh_card
  up_seen ts w g = g ∙ ap (λ (x : Card). with_arrays x ts (map (λ (t : Tail). fresh_core t.number) ts) x.holders) up_blank

pub up_frame : (t u v w : List ℕ) → Frame t u 0 423 → Frame u v 0 4 → Frame v w 0 423 → Frame t w 0 423
up_frame t u v w e f g = frame_then v w t 0 423 (frame_then u v t 0 423 e (frame_wider u v 0 4 0 423 f (omega arith) (omega arith))) g
