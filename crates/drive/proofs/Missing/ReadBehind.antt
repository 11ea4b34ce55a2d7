-- The valid set of what is behind the barrier, read from the disk as it is now: of each core as many records as are committed behind the
-- barrier. A count that ends there needs no look at what comes next.
use Prim.Native.Nat.{ℕ, zero, suc, ◌-◌, ◌≤◌, ◌<◌}
use native.Mathlib.Omega.{arith}
use mathlib.Core.Path.{◌≡◌, refl, sym, ap, ◌∙◌, subst}
use mathlib.Core.Bool.{Bool}
use mathlib.Core.List.{List, [], ◌∷◌, Memᴰ}
use mathlib.Core.Logic.{inl, inr}
use lib.ListN.{take}
use Rattle.model.specs.Lists.{below, all, any}
use Rattle.model.specs.Bytes.{Bytes}
use Rattle.model.specs.Layout.{highest_in, names_from}
use Rattle.model.specs.Card.{new_name, same_name}
use Rattle.model.specs.Journal.{journal, journals, name_of, names_of}
use Rattle.model.specs.Shrink.{Within, shrink}
use Rattle.model.specs.Valid.{in_sequence, required, required_of, is_in, is_met, names_met, valid_set}
use Rattle.model.specs.declared.Name.{Name}
use Rattle.model.specs.declared.Tail.{Tail}
use Rattle.model.specs.declared.Committed.{Committed}
use Rattle.model.specs.declared.CommitLayout.TheVariants.{Numbers}
use Rattle.model.proofs.Lists.{mem_flat_map, flat_map_below, mem_below}
use Rattle.model.proofs.Journal.{records_take}
use Rattle.model.proofs.SameShrink.{shrink_same}
use Rattle.model.proofs.Valid.{names_met_monotone}
use Rattle.crash.specs.Ledger.{Ledger, valid_in}
use Rattle.crash.proofs.Disk.Relation.{WellFormed, DiskStands}
use Rattle.crash.proofs.Disk.RecordFormat.{read_record, read_from, read_list}
use Rattle.crash.proofs.Disk.ReadRecords.{journal_read, read_list_is}
use Rattle.crash.proofs.Disk.ReadValid.{valid_same}
use Rattle.drive.specs.LostCommits.{book_without, ledger_without}
use Rattle.drive.proofs.Lost.Without.{Last, well_formed_without, mid_without}

-- ---- fewer records read are the first of them
from_take : (l : Ledger) (c i p m n : ℕ) → m ≤ n → take m (read_from l c i p n) ≡ read_from l c i p m
unfolding read_from
from_take l c i p zero n h = refl
from_take l c i p (suc m) zero h = absurd (omega arith)
from_take l c i p (suc m) (suc n) h = ap (λ (xs : List Committed). read_record l (new_name c i) p ∷ xs) (from_take l c (suc i) _ m n (omega arith))

from_without : (l : Ledger) (x : Name → Bool) (c i p n : ℕ) → read_from (ledger_without x l) c i p n ≡ read_from l c i p n
unfolding read_from book_without
from_without l x c i p zero = refl
from_without l x c i p (suc n) = ap (λ (xs : List Committed). read_record l (new_name c i) p ∷ xs) (from_without l x c (suc i) _ n)

of_take : {A : Type 0} (n : ℕ) (xs : List A) {x : A} → Memᴰ x (take n xs) → Memᴰ x xs
of_take zero xs m = absurd (mathlib.Core.List.Memᴰ.not-nil m)
of_take (suc n) [] m = absurd (mathlib.Core.List.Memᴰ.not-nil m)
of_take (suc n) (y ∷ xs) {x} m = go (of_take n xs) m
  where
    go : (Memᴰ x (take n xs) → Memᴰ x xs) → Memᴰ x (y ∷ take n xs) → Memᴰ x (y ∷ xs)
    go f m = elim (mathlib.Core.List.Memᴰ.cases_cons m) [ inl e ↦ mathlib.Core.List.Memᴰ.head e | inr r ↦ mathlib.Core.List.Memᴰ.tail (f r) ]

module _ {l : Ledger} (f : WellFormed l) (since : Name → Bool) (last : Last l since) {tail_at : ℕ → Tail} {behind now : Bytes}
    (z₀ : DiskStands Numbers (ledger_without since l) behind tail_at) (z : DiskStands Numbers l now tail_at)
    -- of each core, as many as are committed behind the barrier
    (most : ℕ → ℕ) (exact : (c : ℕ) → c < l.shape.cores → most c ≡ (book_without since l.book).uncommitted c - l.book.oldest c) where
  formed₀ : WellFormed (ledger_without since l)
  formed₀ = well_formed_without f since last

  list_without : (c : ℕ) → c < l.shape.cores → read_list (ledger_without since l) c (tail_at c) ≡ take (most c) (read_list l c (tail_at c))
  unfolding read_list book_without
  list_without c h =
      let n = l.book.uncommitted c - l.book.oldest c in
      let o = l.book.oldest c in
      let p = (tail_at c).position in
      let e : (book_without since l.book).uncommitted c - o ≡ most c = sym (unfold book_without in exact c h) in
      let low : most c ≤ n = (let u : (book_without since l.book).uncommitted c ≤ l.book.uncommitted c = unfold book_without in mid_without since l.book c in omega (arith, e)) in
      ap (read_from (ledger_without since l) c o p) (unfold book_without in e) ∙ (unfold book_without in from_without l since c o p (most c)) ∙ sym (from_take l c o p (most c) n low)

  journal_now : (c : ℕ) → c < l.shape.cores → journal Numbers l.shape now c (tail_at c) (most c) ≡ read_list (ledger_without since l) c (tail_at c)
  unfolding journal
  journal_now c h =
      let n = l.book.uncommitted c - l.book.oldest c in
      let u : (book_without since l.book).uncommitted c ≤ l.book.uncommitted c = unfold book_without in mid_without since l.book c in
      records_take Numbers l.shape now c (most c) n (tail_at c).number (tail_at c).position l.shape.journal (omega (arith, exact c h))
      ∙ ap (take (most c)) (unfold journal in journal_read f z c h n (omega arith))
      ∙ sym (list_without c h)

  enough₀ : (c : ℕ) → c < l.shape.cores → (book_without since l.book).uncommitted c - (book_without since l.book).oldest c ≤ most c
  enough₀ c h = (let e : most c ≡ (book_without since l.book).uncommitted c - (book_without since l.book).oldest c = unfold book_without in exact c h in omega arith)

  journal_behind : (c : ℕ) → c < l.shape.cores → journal Numbers l.shape behind c (tail_at c) (most c) ≡ read_list (ledger_without since l) c (tail_at c)
  journal_behind c h = journal_read formed₀ z₀ c h (most c) (enough₀ c h)

  journals_same : journals Numbers l.shape now tail_at most ≡ journals Numbers l.shape behind tail_at most
  unfolding journals
  journals_same =
      flat_map_below (λ (c : ℕ). journal Numbers l.shape now c (tail_at c) (most c)) (λ (c : ℕ). journal Numbers l.shape behind c (tail_at c) (most c)) l.shape.cores
      (λ c h. journal_now c h ∙ sym (journal_behind c h))

  -- what a record names is the same on both disks
  names_same : (e : Committed) → Memᴰ e (journals Numbers l.shape now tail_at most) → names_of Numbers l.shape now e ≡ names_of Numbers l.shape behind e
  unfolding journals
  names_same e m =
      let r = mem_flat_map (λ (c : ℕ). journal Numbers l.shape now c (tail_at c) (most c)) (below l.shape.cores) m in
      let h = mem_below l.shape.cores r.1 in
      let m₀ : Memᴰ e (read_list (ledger_without since l) r.0 (tail_at r.0)) = subst (Memᴰ e) (journal_now r.0 h) r.2 in
      let m₁ : Memᴰ e (read_list l r.0 (tail_at r.0)) = of_take (most r.0) _ (subst (Memᴰ e) (list_without r.0 h) m₀) in
      (read_list_is f z r.0 h e m₁).names ∙ sym (behind_names r.0 h m₀)
    where
      behind_names : (c : ℕ) → c < l.shape.cores → Memᴰ e (read_list (ledger_without since l) c (tail_at c))
          → names_of Numbers l.shape behind e ≡ names_from (highest_in (l.book.entry (name_of e)).names)
      behind_names c h m = unfold book_without in (read_list_is formed₀ z₀ c h e m).names

  met_same : (ss : List Committed) → Within ss (journals Numbers l.shape now tail_at most) → (e : Committed) → Memᴰ e ss
      → names_met in_sequence Numbers l.shape now tail_at ss e ≡ names_met in_sequence Numbers l.shape behind tail_at ss e
  unfolding names_met required_of
  met_same ss inside e m = ap (λ (ns : List Name). all (is_met tail_at ss) (required in_sequence (name_of e) ns)) (names_same e (inside e m))

  valid_both : valid_set in_sequence Numbers l.shape now tail_at (journals Numbers l.shape now tail_at most)
      ≡ valid_set in_sequence Numbers l.shape behind tail_at (journals Numbers l.shape behind tail_at most)
  unfolding valid_set
  valid_both =
      shrink_same (names_met in_sequence Numbers l.shape now tail_at) (names_met in_sequence Numbers l.shape behind tail_at)
      (names_met_monotone in_sequence Numbers l.shape now tail_at) (names_met_monotone in_sequence Numbers l.shape behind tail_at) (journals Numbers l.shape now tail_at most)
      (λ ss inside stay e m. sym (met_same ss inside e m) ∙ stay e m) (λ ss inside stay e m. met_same ss inside e m ∙ stay e m)
      ∙ ap (shrink (names_met in_sequence Numbers l.shape behind tail_at)) journals_same

  -- Read from the disk as it is, with these counts, the valid set is that of what is behind the barrier.
  pub valid_behind_lem : (n : Name) → is_in (valid_set in_sequence Numbers l.shape now tail_at (journals Numbers l.shape now tail_at most)) n ≡ any (same_name n) (valid_in (book_without since l.book))
  valid_behind_lem n = ap (λ (es : List Committed). is_in es n) valid_both ∙ valid_same formed₀ z₀ most enough₀ n
