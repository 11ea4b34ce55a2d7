-- The running transaction in its cells: a cell that is not 0 opens one where there was none, one cell raises a number, two take a
-- block. Each is framed.
use Rattle.model.proofs.Base.{ℕ, ◌+◌, ◌-◌, ◌%◌, ◌≤◌, ◌<◌, arith, ◌≡◌, sym, ap, ◌∙◌, Bool, true, false, not, List, map, length}
use Rattle.model.proofs.Base.{get_or, set, length-set, get_or-set_same, get_or-set_other, eqb, ltb, ltb-true, below}
use Prim.Native.Nat.{max}
use lib.Seq.{set-get_or}
use Rattle.model.specs.Card.{no_transaction, opened, highest_of, with_name, with_block}
use Rattle.model.specs.declared.Name.{Name}
use Rattle.model.specs.declared.Transaction.{Transaction}
use Rattle.model.proofs.Lists.{map_below}
use Rattle.cells.specs.Cells.{byte_in, number_in, transaction_in}
use Rattle.cells.specs.Changes.{opened_or, fits_at, Frame}
use Rattle.cells.proofs.FitsLaws.{fits_live, fits_byte, fits_highest, frame_then, frame_set}
use Rattle.cells.proofs.ReadLaws.{tabled_set, count_read, highest_read}
use Rattle.cells.proofs.TransactionLaws.{transaction_cong}

-- ---- opened where there was none
opened_here : (w : List ℕ) (a x : ℕ) → length w ≡ 423 → a + 19 ≤ 423 → eqb x 0 ≡ false → transaction_in w a ≡ no_transaction → transaction_in (set w a x) a ≡ opened
unfolding transaction_in
opened_here w a x n f l e =
    transaction_cong _ _ _ _ _ _ _ _ _ _
    (ap (λ (k : ℕ). not (eqb k 0)) (get_or-set_same w a x 0 (omega arith)) ∙ ap not l)
    (get_or-set_other w a (a + 1) x 0 (omega arith))
    (ap (λ (k : ℕ). k % 256) (get_or-set_other w a (a + 2) x 0 (omega arith)))
    (map_below _ _ 8 (λ k p. ap (λ (k : ℕ). k % 256) (get_or-set_other w a (a + 3 + k) x 0 (omega arith))))
    (map_below _ _ 8 (λ k p. ap (λ (k : ℕ). k % 4294967296) (get_or-set_other w a (a + 11 + k) x 0 (omega arith))))
    ∙ ap (λ (t : Transaction). record { live = true; stamp = t.stamp; count = t.count; blocks = t.blocks; highest = t.highest }) e

open_new : (s t : Transaction) → s ≡ opened → t.live ≡ false → s ≡ opened_or t
unfolding opened_or
open_new s t e h = e ∙ rw h

module _ (v w : List ℕ) (a : ℕ) (size : length v ≡ 423) (from : 87 ≤ a) (fits : a + 19 ≤ 423) (place : (a - 87) % 42 % 19 ≡ 4) (b : Frame v w a 19) where
  pub still_in : a < length w
  still_in = omega (arith, b.size)

  pub opened_frame : (x : ℕ) → ltb x 2 ≡ true → Frame v (set w a x) a 19
  opened_frame x l = frame_then w (set w a x) v a 19 b (frame_set w a 19 a x (omega arith) (omega arith) (fits_live a from fits place x (ltb-true x 2 l)))

  pub opened_there : (x : ℕ) → eqb x 0 ≡ false → transaction_in w a ≡ no_transaction → (g : Bool) → g ≡ (transaction_in v a).live → g ≡ false → transaction_in (set w a x) a ≡ opened_or (transaction_in v a)
  opened_there x l e g q h = open_new _ (transaction_in v a) (opened_here w a x (b.size ∙ size) fits l e) (sym q ∙ h)

-- ---- a number raised, or left where it is as high
low_number : (n : ℕ) → n < 4294967296 → n % 4294967296 ≡ n
low_number n h = omega arith

higher : (k n : ℕ) → k < n → max k n ≡ n
higher k n h = omega arith

as_high : (k n : ℕ) → n ≤ k → max k n ≡ k
as_high k n h = omega arith

name_stands : (t : Transaction) (n : Name) → n.number ≤ highest_of t n.core → t ≡ with_name t n
unfolding with_name highest_of
name_stands t n h =
    let e : set t.highest n.core (max (get_or t.highest n.core 0) n.number) ≡ t.highest =
    ap (set t.highest n.core) (as_high (highest_of t n.core) n.number h) ∙ set-get_or t.highest n.core 0 in
    rw e

module _ (w : List ℕ) (a : ℕ) (n : Name) (few : n.core < 8) (k : ℕ) (e : k ≡ number_in w (a + 11 + n.core)) where
  number_there : k ≡ highest_of (transaction_in w a) n.core
  number_there = e ∙ sym (highest_read w a n.core few)

  pub number_stays : n.number ≤ k → transaction_in w a ≡ with_name (transaction_in w a) n
  number_stays h = name_stands (transaction_in w a) n (omega (arith, number_there))

module _ (w : List ℕ) (a : ℕ) (size : length w ≡ 423) (from : 87 ≤ a) (fits : a + 19 ≤ 423) (place : (a - 87) % 42 % 19 ≡ 4) (n : Name) (few : n.core < 8) (narrow : n.number < 4294967296) where
  abbrev raised : List ℕ
  raised = set w (a + 11 + n.core) n.number

  other : (m : ℕ) → (m ≡ a + 11 + n.core → ⊥) → get_or raised m 0 ≡ get_or w m 0
  other m f = get_or-set_other w (a + 11 + n.core) m n.number 0 f

  pub number_raised : (k : ℕ) → k ≡ number_in w (a + 11 + n.core) → k < n.number → transaction_in raised a ≡ with_name (transaction_in w a) n
  unfolding transaction_in with_name
  number_raised k e h =
      transaction_cong _ _ _ _ _ _ _ _ _ _
      (ap (λ (i : ℕ). not (eqb i 0)) (other a (omega arith)))
      (other (a + 1) (omega arith))
      (ap (λ (i : ℕ). i % 256) (other (a + 2) (omega arith)))
      (map_below _ _ 8 (λ i p. ap (λ (i : ℕ). i % 256) (other (a + 3 + i) (omega arith))))
      (tabled_set (λ (c : ℕ). number_in w (a + 11 + c)) (λ (c : ℕ). number_in raised (a + 11 + c)) 8 n.core 0 few (λ c p q. ap (λ (i : ℕ). i % 4294967296) (other (a + 11 + c) (omega arith)))
      ∙ ap (set (map (λ (c : ℕ). number_in w (a + 11 + c)) (below 8)) n.core) (ap (λ (i : ℕ). i % 4294967296) (get_or-set_same w (a + 11 + n.core) n.number 0 (omega arith)) ∙ low_number n.number narrow ∙ sym (higher (highest_of (transaction_in w a) n.core) n.number (omega (arith, number_there w a n few k e)))))

  pub number_frame : Frame w raised a 19
  number_frame =
      frame_set w a 19 (a + 11 + n.core) n.number (omega arith) (omega arith)
      (ap (λ (j : ℕ). fits_at j n.number) there ∙ fits_highest a from fits place (11 + n.core) n.number (omega arith) (omega arith) narrow)
    where
      there : a + 11 + n.core ≡ a + (11 + n.core)
      there = omega arith

-- ---- a block taken: the block put, then the count of them
low_byte : (n : ℕ) → n < 256 → n % 256 ≡ n
low_byte n h = omega arith

module _ (w : List ℕ) (a i : ℕ) (size : length w ≡ 423) (from : 87 ≤ a) (fits : a + 19 ≤ 423) (place : (a - 87) % 42 % 19 ≡ 4) where
  -- an index within the array, after one cell was put
  pub count_in : (j x : ℕ) → a + 2 < length (set w j x)
  count_in j x = rw (length-set w j x) (omega arith)

  module _ (e : i ≡ byte_in w (a + 2)) (r : (transaction_in w a).count < 8) where
    low_count : i < 8
    low_count = omega (arith, count_read w a)

    pub block_in : a + 3 + i < 423
    block_in = omega (arith, low_count)

    within : a + 3 + i < length w
    within = omega (arith, low_count)

    module _ (x : ℕ) (h : x < 256) where
      abbrev put : List ℕ
      put = set (set w (a + 3 + i) x) (a + 2) (i + 1)

      beside : (m : ℕ) → (m ≡ a + 3 + i → ⊥) → (m ≡ a + 2 → ⊥) → get_or put m 0 ≡ get_or w m 0
      beside m f g = get_or-set_other (set w (a + 3 + i) x) (a + 2) m (i + 1) 0 g ∙ get_or-set_other w (a + 3 + i) m x 0 f

      first : get_or put (a + 3 + i) 0 ≡ x
      first = get_or-set_other (set w (a + 3 + i) x) (a + 2) (a + 3 + i) (i + 1) 0 (omega arith) ∙ get_or-set_same w (a + 3 + i) x 0 within

      second : get_or put (a + 2) 0 ≡ i + 1
      second = get_or-set_same (set w (a + 3 + i) x) (a + 2) (i + 1) 0 (count_in (a + 3 + i) x)

      pub block_put : transaction_in put a ≡ with_block (transaction_in w a) x
      unfolding transaction_in
      block_put =
          transaction_cong _ _ _ _ _ _ _ _ _ _
          (ap (λ (n : ℕ). not (eqb n 0)) (beside a (omega arith) (omega arith)))
          (beside (a + 1) (omega arith) (omega arith))
          (ap (λ (n : ℕ). n % 256) second ∙ omega (arith, low_count))
          (tabled_set (λ (k : ℕ). byte_in w (a + 3 + k)) (λ (k : ℕ). byte_in put (a + 3 + k)) 8 i 0 low_count (λ k p q. ap (λ (n : ℕ). n % 256) (beside (a + 3 + k) (omega arith) (omega arith)))
          ∙ ap (λ (n : ℕ). set (map (λ (k : ℕ). byte_in w (a + 3 + k)) (below 8)) i n) (ap (λ (n : ℕ). n % 256) first ∙ low_byte x h)
          ∙ ap (λ (n : ℕ). set (map (λ (k : ℕ). byte_in w (a + 3 + k)) (below 8)) n x) e)
          (map_below _ _ 8 (λ k p. ap (λ (n : ℕ). n % 4294967296) (beside (a + 11 + k) (omega (arith, low_count)) (omega arith))))

      pub block_frame : Frame w put a 19
      block_frame =
          frame_then (set w (a + 3 + i) x) put w a 19
          (frame_set w a 19 (a + 3 + i) x (omega arith) (omega (arith, low_count))
          (ap (λ (j : ℕ). fits_at j x) there ∙ fits_byte a from fits place (3 + i) x (omega arith) (omega (arith, low_count)) h))
          (frame_set (set w (a + 3 + i) x) a 19 (a + 2) (i + 1) (omega arith) (omega arith) (fits_byte a from fits place 2 (i + 1) (omega arith) (omega arith) (omega (arith, low_count))))
        where
          there : a + 3 + i ≡ a + (3 + i)
          there = omega arith
