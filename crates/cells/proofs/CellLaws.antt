-- The card where the cells of one part changed: the frame of a core, of its running transaction or of a holder gives a card
-- in which that part alone is another.
use Rattle.model.proofs.Base.{ℕ, ◌+◌, ◌-◌, ◌%◌, ◌≤◌, ◌<◌, arith, ◌≡◌, refl, sym, ap, ◌∙◌, List, map, length, get_or, set}
use Rattle.model.proofs.Base.{get_or-set_same, get_or-set_other, ltb, ne_eqb, ltb-true, ltb-false, below}
use Rattle.model.specs.Card.{new_tail, no_holder, new_holder, with_running, core_of, fresh_core, with_core, with_holder}
use Rattle.model.specs.declared.Phase.{Phase}
use Rattle.model.specs.declared.Shape.{Shape}
use Rattle.model.specs.declared.Tail.{Tail}
use Rattle.model.specs.declared.Name.{Name}
use Rattle.model.specs.declared.Transaction.{Transaction}
use Rattle.model.specs.declared.Core.{Core}
use Rattle.model.specs.Card.{Holder}
use Rattle.model.specs.declared.Card.{Card}
use Rattle.model.proofs.Lists.{cases, map_below}
use Rattle.cells.proofs.FitsLaws.{fits_holder, frame_wider, frame_set}
use Rattle.cells.specs.Cells.{phase_in, name_in, holder_in, tail_from, transaction_in, core_in, card_in, tail_place, holder_place, core_place}
use Rattle.cells.specs.Changes.{Frame}
use Rattle.cells.proofs.ReadLaws.{tabled_set, core_of_card_in}
use Rattle.cells.proofs.TransactionLaws.{transaction_in_same, transaction_in_high}

-- ---- the card where some cells changed
pub tail_cong : (a b c d : ℕ) → a ≡ b → c ≡ d → new_tail a c ≡ new_tail b d
tail_cong a b c d p q = rw (p, q)

pub tail_from_same : (v w : List ℕ) (b : ℕ) → ((i : ℕ) → b ≤ i → i < b + 2 → get_or w i 0 ≡ get_or v i 0) → tail_from w b ≡ tail_from v b
unfolding tail_from
tail_from_same v w b e =
    tail_cong _ _ _ _
    (ap (λ (n : ℕ). n % 4294967296) (e b (omega arith) (omega arith)))
    (ap (λ (n : ℕ). n % 256) (e (b + 1) (omega arith) (omega arith)))

pub core_cong : (a b c d e f g h : ℕ) (r s t u : Transaction) → a ≡ b → c ≡ d → e ≡ f → g ≡ h → r ≡ s → t ≡ u
    → ◌≡◌ {A = Core} (record { next = a; used = c; stored = e; homed = g; running = r; closed = t }) (record { next = b; used = d; stored = f; homed = h; running = s; closed = u })
core_cong a b c d e f g h r s t u i j k l m n = rw (i, j, k, l, m, n)

pub core_in_same : (v w : List ℕ) (b : ℕ) → ((i : ℕ) → b ≤ i → i < b + 42 → get_or w i 0 ≡ get_or v i 0) → core_in w b ≡ core_in v b
unfolding core_in
core_in_same v w b e =
    core_cong _ _ _ _ _ _ _ _ _ _ _ _
    (ap (λ (n : ℕ). n % 4294967296) (e b (omega arith) (omega arith)))
    (ap (λ (n : ℕ). n % 256) (e (b + 1) (omega arith) (omega arith)))
    (ap (λ (n : ℕ). n % 256) (e (b + 2) (omega arith) (omega arith)))
    (ap (λ (n : ℕ). n % 256) (e (b + 3) (omega arith) (omega arith)))
    (transaction_in_same v w (b + 4) (λ i p q. e i (omega arith) (omega arith)))
    (transaction_in_same v w (b + 23) (λ i p q. e i (omega arith) (omega arith)))

pub card_cong : (p q : Phase) (s t : Shape) (a b c d : ℕ) (ts us : List Tail) (ks ls : List Core) (hs is : List Holder) → p ≡ q → s ≡ t → a ≡ b → c ≡ d → ts ≡ us → ks ≡ ls → hs ≡ is
    → ◌≡◌ {A = Card} (record { phase = p; shape = s; closes = a; recovered = c; tails = ts; cores = ks; holders = hs }) (record { phase = q; shape = t; closes = b; recovered = d; tails = us; cores = ls; holders = is })
card_cong p q s t a b c d ts us ks ls hs is e f g h i j k = rw (e, f, g, h, i, j, k)

pub shape_cong : (a b c d e f : ℕ) → a ≡ b → c ≡ d → e ≡ f → ◌≡◌ {A = Shape} (record { cores = a; blocks = c; journal = e }) (record { cores = b; blocks = d; journal = f })
shape_cong a b c d e f p q r = rw (p, q, r)

-- cells of one core
module _ (v w : List ℕ) (c : ℕ) (h : c < 8) (e : Frame v w (core_place c) 42) where
  core_other : (d : ℕ) → d < 8 → (d ≡ c → ⊥) → core_in w (core_place d) ≡ core_in v (core_place d)
  core_other d l f = core_in_same v w (core_place d) (λ i p q. cases (ltb d c) (λ t. let z : d < c = ltb-true d c t in e.low i (omega arith)) (λ t. let z : c ≤ d = ltb-false d c t in e.high i (omega arith)))

  pub core_put : card_in w ≡ with_core (card_in v) c (core_in w (core_place c))
  unfolding card_in
  core_put =
      card_cong _ _ _ _ _ _ _ _ _ _ _ _ _ _
      (ap phase_in (e.low 0 (omega arith)))
      (shape_cong _ _ _ _ _ _ (ap (λ (n : ℕ). n % 256) (e.low 1 (omega arith))) (ap (λ (n : ℕ). n % 256) (e.low 2 (omega arith))) (ap (λ (n : ℕ). n % 256) (e.low 3 (omega arith))))
      (e.low 4 (omega arith))
      (ap (λ (n : ℕ). n % 256) (e.low 5 (omega arith)))
      (map_below _ _ 8 (λ d p. tail_from_same v w (tail_place d) (λ i q r. e.low i (omega arith))))
      (tabled_set (λ (d : ℕ). core_in v (core_place d)) (λ (d : ℕ). core_in w (core_place d)) 8 c (fresh_core 0) h core_other)
      (map_below _ _ 64 (λ b p. ap holder_in (e.low (holder_place b) (omega arith))))

-- cells of its running transaction
module _ (v w : List ℕ) (c : ℕ) (h : c < 8) (e : Frame v w (core_place c + 4) 19) where
  running_inside : core_in w (core_place c) ≡ with_running (core_in v (core_place c)) (transaction_in w (core_place c + 4))
  unfolding core_in
  running_inside =
      core_cong _ _ _ _ _ _ _ _ _ _ _ _
      (ap (λ (n : ℕ). n % 4294967296) (e.low (core_place c) (omega arith)))
      (ap (λ (n : ℕ). n % 256) (e.low (core_place c + 1) (omega arith)))
      (ap (λ (n : ℕ). n % 256) (e.low (core_place c + 2) (omega arith)))
      (ap (λ (n : ℕ). n % 256) (e.low (core_place c + 3) (omega arith)))
      refl
      (transaction_in_high v w (core_place c + 4) 19 (core_place c + 23) e (omega arith))

  pub running_put : card_in w ≡ with_core (card_in v) c (with_running (core_of (card_in v) c) (transaction_in w (core_place c + 4)))
  running_put =
      core_put v w c h (frame_wider v w (core_place c + 4) 19 (core_place c) 42 e (omega arith) (omega arith))
      ∙ ap (with_core (card_in v) c) (running_inside ∙ ap (λ (k : Core). with_running k (transaction_in w (core_place c + 4))) (sym (core_of_card_in v c h)))

-- the cell of a holder
back_one : (x : ℕ) → x + 1 - 1 ≡ x
back_one x = omega arith

pub holder_cell_lem : (x : ℕ) (n : Name) → name_in x ≡ n → holder_in (x + 1) ≡ new_holder n
unfolding holder_in
holder_cell_lem x n e = rw (ne_eqb (x + 1) 0 (omega arith), back_one x, e)

pub holder_frame : (v : List ℕ) (b x : ℕ) → b < 64 → x < 34359738368 → Frame v (set v (holder_place b) (x + 1)) (holder_place b) 1
holder_frame v b x h l = frame_set v (holder_place b) 1 (holder_place b) (x + 1) (omega arith) (omega arith) (fits_holder b (x + 1) h (omega arith))

pub holder_put : (v : List ℕ) (b x : ℕ) → length v ≡ 423 → b < 64 → (n : Name) → name_in x ≡ n → card_in (set v (holder_place b) (x + 1)) ≡ with_holder (card_in v) b (new_holder n)
unfolding card_in
holder_put v b x l h n e =
    card_cong _ _ _ _ _ _ _ _ _ _ _ _ _ _
    (ap phase_in (other 0 (omega arith)))
    (shape_cong _ _ _ _ _ _ (ap (λ (n : ℕ). n % 256) (other 1 (omega arith))) (ap (λ (n : ℕ). n % 256) (other 2 (omega arith))) (ap (λ (n : ℕ). n % 256) (other 3 (omega arith))))
    (other 4 (omega arith))
    (ap (λ (n : ℕ). n % 256) (other 5 (omega arith)))
    (map_below _ _ 8 (λ d p. tail_from_same v _ (tail_place d) (λ i q r. other i (omega arith))))
    (map_below _ _ 8 (λ d p. core_in_same v (set v (holder_place b) (x + 1)) (core_place d) (λ i q r. other i (omega arith))))
    (tabled_set (λ (d : ℕ). holder_in (get_or v (holder_place d) 0)) (λ (d : ℕ). holder_in (get_or (set v (holder_place b) (x + 1)) (holder_place d) 0)) 64 b no_holder h (λ d p q. ap holder_in (other (holder_place d) (omega arith)))
    ∙ ap (λ (k : Holder). set (map (λ (d : ℕ). holder_in (get_or v (holder_place d) 0)) (below 64)) b k) (ap holder_in (get_or-set_same v (holder_place b) (x + 1) 0 (omega arith)) ∙ holder_cell_lem x n e))
  where
    other : (m : ℕ) → (m ≡ holder_place b → ⊥) → get_or (set v (holder_place b) (x + 1)) m 0 ≡ get_or v m 0
    other m f = get_or-set_other v (holder_place b) m (x + 1) 0 f
