-- The n cells from a place on replaced by others, as `fill` and `copy_within` do it: every cell read, and the frame.
use Rattle.model.proofs.Base.{ℕ, ◌+◌, ◌-◌, ◌≤◌, ◌<◌, arith, ◌≡◌, sym, ap, subst, ◌∙◌, true, List, ◌++◌, length, take, drop, get_or, length-append, length-take, length-drop}
use mathlib.Core.Logic.{◌⊎◌, inl, inr}
use native.Mathlib.Decide.{dec_lt}
use Rattle.std.proofs.lemmas.List.{get_or_append_left, get_or-append-add}
use Rattle.model.specs.Bytes.{replaced}
use Rattle.model.proofs.OlderDisk.{byte_other}
use Rattle.cells.specs.Changes.{fits_at, AllFit, Frame}

module _ (v ys : List ℕ) (a n : ℕ) (h : a + n ≤ length v) (e : length ys ≡ n) where
  abbrev pub with_cells : List ℕ
  with_cells = take a v ++ (ys ++ drop n (drop a v))

  pub size_kept : length with_cells ≡ length v
  size_kept = simp (length-append, length-take, length-drop) (omega arith)

  pub other_cell : (i : ℕ) → (i < a) ⊎ (a + n ≤ i) → get_or with_cells i 0 ≡ get_or v i 0
  unfolding replaced
  other_cell i p = byte_other a n v ys h e i p

  pub cell_at : (k : ℕ) → k < n → get_or with_cells (a + k) 0 ≡ get_or ys k 0
  cell_at k p =
      let s : length (take a v) ≡ a = omega (arith, length-take {A = ℕ}) in
      ap (λ (j : ℕ). get_or with_cells (j + k) 0) (sym s)
      ∙ get_or-append-add (take a v) (ys ++ drop n (drop a v)) k 0
      ∙ get_or_append_left ys (drop n (drop a v)) 0 k (omega arith)

  module _ (fit : AllFit v → (k : ℕ) → k < n → fits_at (a + k) (get_or ys k 0) ≡ true) (f : AllFit v) (i : ℕ) (p : i < 423) where
    kept : (i < a) ⊎ (a + n ≤ i) → fits_at i (get_or with_cells i 0) ≡ true
    unfolding AllFit
    kept o = ap (fits_at i) (other_cell i o) ∙ f i p

    put : a ≤ i → i < a + n → fits_at i (get_or with_cells i 0) ≡ true
    put q r =
        let s : a + (i - a) ≡ i = omega arith in
        subst (λ (j : ℕ). fits_at j (get_or with_cells j 0) ≡ true) s
        (ap (fits_at (a + (i - a))) (cell_at (i - a) (omega arith)) ∙ fit f (i - a) (omega arith))

    fitting : Dec (i < a) → Dec (i < a + n) → fits_at i (get_or with_cells i 0) ≡ true
    fitting (yes l) d = kept (inl l)
    fitting (no l) (yes m) = put (omega arith) m
    fitting (no l) (no m) = kept (inr (omega arith))

  pub cells_frame : (AllFit v → (k : ℕ) → k < n → fits_at (a + k) (get_or ys k 0) ≡ true) → Frame v with_cells a n
  unfolding AllFit
  cells_frame fit = record {
    size = size_kept;
    low = λ i p. other_cell i (inl p);
    high = λ i p. other_cell i (inr p);
    fits = λ f i p. fitting fit f i p (dec_lt i a) (dec_lt i (a + n));
  }
