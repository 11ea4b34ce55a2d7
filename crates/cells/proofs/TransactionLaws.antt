-- A transaction at its place: the same cells give the same one; the place cleared, with its frame; one that is live stays open.
use Rattle.model.proofs.Base.{ℕ, ◌+◌, ◌%◌, ◌≤◌, ◌<◌, arith, ◌≡◌, ap, ◌∙◌, Bool, true, not, List, length, get_or}
use Rattle.model.proofs.Base.{eqb, below}
use Rattle.model.specs.Card.{no_transaction}
use Rattle.model.specs.declared.Transaction.{Transaction}
use Rattle.model.proofs.Lists.{map_below}
use Rattle.model.proofs.Base.{subst, sym, ◌++◌, take, drop, replicate, length-drop, length-replicate, get_or-replicate}
use Rattle.std.proofs.lemmas.List.{length-take-le}
use Rattle.cells.proofs.FitsLaws.{fits_zero}
use Rattle.cells.proofs.RangeLaws.{with_cells, cell_at, cells_frame}
use Rattle.cells.specs.Changes.{fits_at}
use Rattle.cells.specs.Cells.{byte_in, number_in, transaction_in}
use Rattle.cells.specs.Changes.{opened_or, Frame}

-- ---- a transaction by its cells
pub transaction_cong : (l m : Bool) (s t c d : ℕ) (bs es ns os : List ℕ) → l ≡ m → s ≡ t → c ≡ d → bs ≡ es → ns ≡ os
    → ◌≡◌ {A = Transaction} (record { live = l; stamp = s; count = c; blocks = bs; highest = ns }) (record { live = m; stamp = t; count = d; blocks = es; highest = os })
transaction_cong l m s t c d bs es ns os p q r u x = rw (p, q, r, u, x)

-- cells that are the same from b on are the same transaction
pub transaction_in_same : (v w : List ℕ) (b : ℕ) → ((i : ℕ) → b ≤ i → i < b + 19 → get_or w i 0 ≡ get_or v i 0) → transaction_in w b ≡ transaction_in v b
unfolding transaction_in
transaction_in_same v w b e =
    transaction_cong _ _ _ _ _ _ _ _ _ _
    (ap (λ (n : ℕ). not (eqb n 0)) (e b (omega arith) (omega arith)))
    (e (b + 1) (omega arith) (omega arith))
    (ap (λ (n : ℕ). n % 256) (e (b + 2) (omega arith) (omega arith)))
    (map_below _ _ 8 (λ i h. ap (λ (n : ℕ). n % 256) (e (b + 3 + i) (omega arith) (omega arith))))
    (map_below _ _ 8 (λ i h. ap (λ (n : ℕ). n % 4294967296) (e (b + 11 + i) (omega arith) (omega arith))))

pub transaction_in_low : (v w : List ℕ) (a n b : ℕ) → Frame v w a n → b + 19 ≤ a → transaction_in w b ≡ transaction_in v b
transaction_in_low v w a n b e h = transaction_in_same v w b (λ i p q. e.low i (omega arith))

pub transaction_in_high : (v w : List ℕ) (a n b : ℕ) → Frame v w a n → a + n ≤ b → transaction_in w b ≡ transaction_in v b
transaction_in_high v w a n b e h = transaction_in_same v w b (λ i p q. e.high i (omega arith))

-- ---- a place cleared: n cells, which are nineteen, filled with zeros
module _ (v ys : List ℕ) (a n : ℕ) (size : length v ≡ 423) (within : a + 19 ≤ 423) (e : n ≡ 19) (z : ys ≡ replicate (length (take n (drop a v))) 0) where
  long : length (take n (drop a v)) ≡ n
  long = length-take-le n (drop a v) (omega (arith, length-drop a v))

  zeros : ys ≡ replicate n 0
  zeros = z ∙ ap (λ (k : ℕ). replicate k 0) long

  fits : a + n ≤ length v
  fits = omega arith

  count : length ys ≡ n
  count = ap (length {A = ℕ}) zeros ∙ length-replicate n 0

  zero_at : (k : ℕ) → k < 19 → get_or ys k 0 ≡ 0
  zero_at k p = ap (λ (xs : List ℕ). get_or xs k 0) zeros ∙ get_or-replicate n k 0 0 (omega arith)

  at : (k : ℕ) → k < 19 → get_or (with_cells v ys a n fits count) (a + k) 0 ≡ 0
  at k p = cell_at v ys a n fits count k (omega arith) ∙ zero_at k p

  pub cleared : transaction_in (take a v ++ (ys ++ drop n (drop a v))) a ≡ no_transaction
  unfolding transaction_in below
  cleared =
      let w : List ℕ = with_cells v ys a n fits count in
      let first : get_or w a 0 ≡ 0 = let q : a + 0 ≡ a = omega arith in ap (λ (k : ℕ). get_or w k 0) (sym q) ∙ at 0 (omega arith) in
      transaction_cong _ _ _ _ _ _ _ _ _ _
      (ap (λ (k : ℕ). not (eqb k 0)) first)
      (at 1 (omega arith))
      (ap (λ (k : ℕ). k % 256) (at 2 (omega arith)))
      (map_below (λ (k : ℕ). byte_in w (a + 3 + k)) (λ (k : ℕ). 0) 8 (λ k p. ap (λ (m : ℕ). m % 256) (later 3 k (omega arith))))
      (map_below (λ (k : ℕ). number_in w (a + 11 + k)) (λ (k : ℕ). 0) 8 (λ k p. ap (λ (m : ℕ). m % 4294967296) (later 11 k (omega arith))))
    where
      later : (j k : ℕ) → j + k < 19 → get_or (with_cells v ys a n fits count) (a + j + k) 0 ≡ 0
      later j k p = let q : a + j + k ≡ a + (j + k) = omega arith in ap (λ (m : ℕ). get_or (with_cells v ys a n fits count) m 0) q ∙ at (j + k) p

  pub cleared_frame : Frame v (take a v ++ (ys ++ drop n (drop a v))) a 19
  cleared_frame =
      ap_frame (cells_frame v ys a n fits count (λ f k p. ap (fits_at (a + k)) (zero_at k (omega arith)) ∙ fits_zero (a + k)))
    where
      ap_frame : Frame v (with_cells v ys a n fits count) a n → Frame v (with_cells v ys a n fits count) a 19
      ap_frame g = subst (λ (k : ℕ). Frame v (with_cells v ys a n fits count) a k) e g

-- a transaction that is open
pub open_live : (t : Transaction) (g : Bool) → g ≡ t.live → g ≡ true → t ≡ opened_or t
unfolding opened_or
open_live t g q h = rw (← q, h)
