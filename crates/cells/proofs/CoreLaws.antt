-- The card where the cells of one part changed: a core's numbers or its closed transaction, a field of the header, the holders.
use Rattle.model.proofs.Base.{ℕ, ◌+◌, ◌%◌, ◌≤◌, ◌<◌, arith, ◌≡◌, refl, sym, ap, ◌∙◌, List, map, length, get_or, set, length-set}
use Rattle.model.proofs.Base.{get_or-set_same, get_or-set_other, below}
use lib.Seq.{set-set}
use Rattle.model.specs.Card.{fresh_core, core_of, with_core, with_arrays}
use Rattle.model.specs.Recovery.{recovered_to}
use Rattle.model.specs.declared.Core.{Core}
use Rattle.model.specs.declared.Card.{Card}
use Rattle.model.proofs.Lists.{map_below}
use Rattle.cells.specs.Cells.{byte_in, phase_in, holder_in, transaction_in, core_in, card_in, tail_place, holder_place, core_place}
use Rattle.cells.specs.declared.cores.CoreNumbers.{CoreNumbers}
use Rattle.cells.specs.Changes.{with_numbers, with_closed, with_closes, Frame}
use Rattle.cells.proofs.FitsLaws.{fits_next, fits_count, frame_set, frame_then, frame_wider}
use Rattle.cells.proofs.ReadLaws.{length_tabled, core_of_card_in}
use Rattle.cells.proofs.TransactionLaws.{transaction_in_low, transaction_in_high}
use Rattle.cells.proofs.CellLaws.{card_cong, shape_cong, core_cong, tail_from_same, core_in_same, core_put}

-- ---- a core of the card, replaced
module _ (v : List ℕ) (c : ℕ) (h : c < 8) (k : Core) where
  pub core_of_with : core_of (with_core (card_in v) c k) c ≡ k
  unfolding core_of card_in
  core_of_with =
      let l : length (map (λ (d : ℕ). core_in v (core_place d)) (below 8)) ≡ 8 = length_tabled _ 8 in
      get_or-set_same (map (λ (d : ℕ). core_in v (core_place d)) (below 8)) c k (fresh_core 0) (omega arith)

pub with_core_twice : (x : Card) (c : ℕ) (k l : Core) → with_core (with_core x c k) c l ≡ with_core x c l
with_core_twice x c k l = ap (λ (ks : List Core). with_arrays x x.tails ks x.holders) (set-set x.cores c k l)

-- ---- its closed transaction
module _ (v w : List ℕ) (c : ℕ) (h : c < 8) (e : Frame v w (core_place c + 23) 19) where
  closed_inside : core_in w (core_place c) ≡ with_closed (core_in v (core_place c)) (transaction_in w (core_place c + 23))
  unfolding core_in
  closed_inside =
      core_cong _ _ _ _ _ _ _ _ _ _ _ _
      (ap (λ (n : ℕ). n % 4294967296) (e.low (core_place c) (omega arith)))
      (ap (λ (n : ℕ). n % 256) (e.low (core_place c + 1) (omega arith)))
      (ap (λ (n : ℕ). n % 256) (e.low (core_place c + 2) (omega arith)))
      (ap (λ (n : ℕ). n % 256) (e.low (core_place c + 3) (omega arith)))
      (transaction_in_low v w (core_place c + 23) 19 (core_place c + 4) e (omega arith))
      refl

  pub closed_put : card_in w ≡ with_core (card_in v) c (with_closed (core_of (card_in v) c) (transaction_in w (core_place c + 23)))
  closed_put =
      core_put v w c h (frame_wider v w (core_place c + 23) 19 (core_place c) 42 e (omega arith) (omega arith))
      ∙ ap (with_core (card_in v) c) (closed_inside ∙ ap (λ (k : Core). with_closed k (transaction_in w (core_place c + 23))) (sym (core_of_card_in v c h)))

-- ---- its numbers
module _ (v : List ℕ) (c : ℕ) (h : c < 8) (size : length v ≡ 423) (next used stored homed : ℕ) (p : next < 4294967296) (q : used < 256) (r : stored < 256) (s : homed < 256) where
  abbrev w₁ : List ℕ
  w₁ = set v (core_place c) next

  abbrev w₂ : List ℕ
  w₂ = set w₁ (core_place c + 1) used

  abbrev w₃ : List ℕ
  w₃ = set w₂ (core_place c + 2) stored

  abbrev w₄ : List ℕ
  w₄ = set w₃ (core_place c + 3) homed

  pub numbers_frame : Frame v w₄ (core_place c) 4
  numbers_frame =
      frame_then w₃ w₄ v (core_place c) 4
      (frame_then w₂ w₃ v (core_place c) 4
      (frame_then w₁ w₂ v (core_place c) 4
      (frame_set v (core_place c) 4 (core_place c) next (omega arith) (omega arith) (fits_next c next h p))
      (frame_set w₁ (core_place c) 4 (core_place c + 1) used (omega arith) (omega arith) (fits_count c 1 used h (omega arith) (omega arith) q)))
      (frame_set w₂ (core_place c) 4 (core_place c + 2) stored (omega arith) (omega arith) (fits_count c 2 stored h (omega arith) (omega arith) r)))
      (frame_set w₃ (core_place c) 4 (core_place c + 3) homed (omega arith) (omega arith) (fits_count c 3 homed h (omega arith) (omega arith) s))

  first : get_or w₄ (core_place c) 0 ≡ next
  first =
      get_or-set_other w₃ (core_place c + 3) (core_place c) homed 0 (omega arith)
      ∙ get_or-set_other w₂ (core_place c + 2) (core_place c) stored 0 (omega arith)
      ∙ get_or-set_other w₁ (core_place c + 1) (core_place c) used 0 (omega arith)
      ∙ get_or-set_same v (core_place c) next 0 (omega arith)

  second : get_or w₄ (core_place c + 1) 0 ≡ used
  second =
      get_or-set_other w₃ (core_place c + 3) (core_place c + 1) homed 0 (omega arith)
      ∙ get_or-set_other w₂ (core_place c + 2) (core_place c + 1) stored 0 (omega arith)
      ∙ get_or-set_same w₁ (core_place c + 1) used 0 (rw (length-set v (core_place c) next) (omega arith))

  third : get_or w₄ (core_place c + 2) 0 ≡ stored
  third =
      get_or-set_other w₃ (core_place c + 3) (core_place c + 2) homed 0 (omega arith)
      ∙ get_or-set_same w₂ (core_place c + 2) stored 0 (rw (length-set w₁ (core_place c + 1) used, length-set v (core_place c) next) (omega arith))

  fourth : get_or w₄ (core_place c + 3) 0 ≡ homed
  fourth =
      get_or-set_same w₃ (core_place c + 3) homed 0
      (rw (length-set w₂ (core_place c + 2) stored, length-set w₁ (core_place c + 1) used, length-set v (core_place c) next) (omega arith))

  numbers_inside : core_in w₄ (core_place c) ≡ with_numbers (core_in v (core_place c)) next used stored homed
  unfolding core_in
  numbers_inside =
      core_cong _ _ _ _ _ _ _ _ _ _ _ _
      (ap (λ (n : ℕ). n % 4294967296) first ∙ omega arith)
      (ap (λ (n : ℕ). n % 256) second ∙ omega arith)
      (ap (λ (n : ℕ). n % 256) third ∙ omega arith)
      (ap (λ (n : ℕ). n % 256) fourth ∙ omega arith)
      (transaction_in_high v w₄ (core_place c) 4 (core_place c + 4) numbers_frame (omega arith))
      (transaction_in_high v w₄ (core_place c) 4 (core_place c + 23) numbers_frame (omega arith))

  pub numbers_put : card_in w₄ ≡ with_core (card_in v) c (with_numbers (core_of (card_in v) c) next used stored homed)
  numbers_put =
      core_put v w₄ c h (frame_wider v w₄ (core_place c) 4 (core_place c) 42 numbers_frame (omega arith) (omega arith))
      ∙ ap (with_core (card_in v) c) (numbers_inside ∙ ap (λ (k : Core). with_numbers k next used stored homed) (sym (core_of_card_in v c h)))

-- the four cells stand within the array
module _ (v : List ℕ) (c : ℕ) (h : c < 8) (at : ℕ) (e : at ≡ core_place c) (size : length v ≡ 423) where
  pub at_second : (x : ℕ) → at + 1 < length (set v at x)
  at_second x = rw (length-set v at x) (omega arith)

  pub at_third : (x y : ℕ) → at + 2 < length (set (set v at x) (at + 1) y)
  at_third x y = rw (length-set (set v at x) (at + 1) y, length-set v at x) (omega arith)

  pub at_fourth : (x y z : ℕ) → at + 3 < length (set (set (set v at x) (at + 1) y) (at + 2) z)
  at_fourth x y z = rw (length-set (set (set v at x) (at + 1) y) (at + 2) z, length-set (set v at x) (at + 1) y, length-set v at x) (omega arith)

  module _ (next used stored homed : ℕ) (p : next < 4294967296) (q : used < 256) (r : stored < 256) (s : homed < 256) where
    pub put_there : card_in (set (set (set (set v at next) (at + 1) used) (at + 2) stored) (at + 3) homed) ≡ with_core (card_in v) c (with_numbers (core_of (card_in v) c) next used stored homed)
    put_there = rw e (numbers_put v c h size next used stored homed p q r s)

    pub put_frame : Frame v (set (set (set (set v at next) (at + 1) used) (at + 2) stored) (at + 3) homed) (core_place c) 4
    put_frame = rw e (numbers_frame v c h size next used stored homed p q r s)

-- ---- parts that stay
module _ (v w : List ℕ) where
  pub tails_kept : ((i : ℕ) → 7 ≤ i → i < 23 → get_or w i 0 ≡ get_or v i 0) → (card_in w).tails ≡ (card_in v).tails
  unfolding card_in
  tails_kept e = map_below _ _ 8 (λ c p. tail_from_same v w (tail_place c) (λ i q r. e i (omega arith) (omega arith)))

  pub holders_kept : ((i : ℕ) → 23 ≤ i → i < 87 → get_or w i 0 ≡ get_or v i 0) → (card_in w).holders ≡ (card_in v).holders
  unfolding card_in
  holders_kept e = map_below _ _ 64 (λ b p. ap holder_in (e (holder_place b) (omega arith) (omega arith)))

  pub cores_kept : ((i : ℕ) → 87 ≤ i → get_or w i 0 ≡ get_or v i 0) → (card_in w).cores ≡ (card_in v).cores
  unfolding card_in
  cores_kept e = map_below _ _ 8 (λ c p. core_in_same v w (core_place c) (λ i q r. e i (omega arith)))

  -- one field of the header
  pub closes_put : Frame v w 4 1 → card_in w ≡ with_closes (card_in v) (get_or w 4 0)
  unfolding card_in
  closes_put e =
      card_cong _ _ _ _ _ _ _ _ _ _ _ _ _ _
      (ap phase_in (e.low 0 (omega arith)))
      (shape_cong _ _ _ _ _ _ (ap (λ (n : ℕ). n % 256) (e.low 1 (omega arith))) (ap (λ (n : ℕ). n % 256) (e.low 2 (omega arith))) (ap (λ (n : ℕ). n % 256) (e.low 3 (omega arith))))
      refl
      (ap (λ (n : ℕ). n % 256) (e.high 5 (omega arith)))
      (tails_kept (λ i p q. e.high i (omega arith)))
      (cores_kept (λ i p. e.high i (omega arith)))
      (holders_kept (λ i p q. e.high i (omega arith)))

  pub recovered_put : Frame v w 5 1 → card_in w ≡ recovered_to (card_in v) (byte_in w 5)
  unfolding card_in
  recovered_put e =
      card_cong _ _ _ _ _ _ _ _ _ _ _ _ _ _
      (ap phase_in (e.low 0 (omega arith)))
      (shape_cong _ _ _ _ _ _ (ap (λ (n : ℕ). n % 256) (e.low 1 (omega arith))) (ap (λ (n : ℕ). n % 256) (e.low 2 (omega arith))) (ap (λ (n : ℕ). n % 256) (e.low 3 (omega arith))))
      (e.low 4 (omega arith))
      refl
      (tails_kept (λ i p q. e.high i (omega arith)))
      (cores_kept (λ i p. e.high i (omega arith)))
      (holders_kept (λ i p q. e.high i (omega arith)))

  -- the count of stores is no part of the card
  pub stores_unseen : Frame v w 6 1 → card_in w ≡ card_in v
  unfolding card_in
  stores_unseen e =
      card_cong _ _ _ _ _ _ _ _ _ _ _ _ _ _
      (ap phase_in (e.low 0 (omega arith)))
      (shape_cong _ _ _ _ _ _ (ap (λ (n : ℕ). n % 256) (e.low 1 (omega arith))) (ap (λ (n : ℕ). n % 256) (e.low 2 (omega arith))) (ap (λ (n : ℕ). n % 256) (e.low 3 (omega arith))))
      (e.low 4 (omega arith))
      (ap (λ (n : ℕ). n % 256) (e.low 5 (omega arith)))
      (tails_kept (λ i p q. e.high i (omega arith)))
      (cores_kept (λ i p. e.high i (omega arith)))
      (holders_kept (λ i p q. e.high i (omega arith)))

  -- the holders alone
  pub holders_put : Frame v w 23 64 → card_in w ≡ with_arrays (card_in v) (card_in v).tails (card_in v).cores (card_in w).holders
  unfolding card_in
  holders_put e =
      card_cong _ _ _ _ _ _ _ _ _ _ _ _ _ _
      (ap phase_in (e.low 0 (omega arith)))
      (shape_cong _ _ _ _ _ _ (ap (λ (n : ℕ). n % 256) (e.low 1 (omega arith))) (ap (λ (n : ℕ). n % 256) (e.low 2 (omega arith))) (ap (λ (n : ℕ). n % 256) (e.low 3 (omega arith))))
      (e.low 4 (omega arith))
      (ap (λ (n : ℕ). n % 256) (e.low 5 (omega arith)))
      (tails_kept (λ i p q. e.low i (omega arith)))
      (cores_kept (λ i p. e.high i (omega arith)))
      refl

-- the same numbers
pub numbers_cong : (a b d e f g i j : ℕ) → a ≡ b → d ≡ e → f ≡ g → i ≡ j
    → (let k : CoreNumbers = record { next = a; used = d; stored = f; homed = i } in k) ≡ (let l : CoreNumbers = record { next = b; used = e; stored = g; homed = j } in l)
numbers_cong a b d e f g i j p q r s = λ x. record { next = p x; used = q x; stored = r x; homed = s x }
