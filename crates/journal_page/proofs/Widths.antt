-- Every number of a transaction fits the columns of its line, if the disk is one of bytes; so do those of an end, and those of the head by
-- `shape_limits`. What fits is read back: `set_right_value` of `Numerals`.
use Rattle.model.specs.Lists.{Each}
use Rattle.model.specs.Bytes.{number, part, be4, block_at}
use Rattle.model.specs.Shape.{journal_block}
use Rattle.model.specs.Layout.{stamp_in, cores_named}
use Rattle.model.specs.Journal.{journal_at, names_of}
use Rattle.model.specs.Recovery.{shape_on, tail_on, layout_on, committed_by, committed_on}
use Rattle.model.specs.JournalPage.{page_refusal, end_on}
use Rattle.model.specs.declared.Shape.{Shape}
use Rattle.model.specs.declared.Name.{Name}
use Rattle.model.specs.declared.Committed.{Committed}
use Rattle.model.proofs.Base.{ℕ, zero, suc, ◌+◌, ◌*◌, ◌^◌, ◌≤◌, ◌<◌, arith, ◌≡◌, List, [], ◌∷◌, Memᴰ, length, drop, length-take, eqb, below, any, Bytes}
use Rattle.model.proofs.Lists.{each_take, length_below}
use Rattle.model.proofs.Select.{select_length}
use Rattle.model.proofs.Limits.{InRange}
use Rattle.model.proofs.Words.{IsByte}
use Rattle.model.proofs.Journal.{descriptor_number}
use Rattle.model.proofs.Records.{journals_known}
use Rattle.model.proofs.OneStore.{master_limits}
use Rattle.model.proofs.EndReasons.{end_known}
use Rattle.journal_page.proofs.PageLaws.{refusal_numbers, cores_on}

four_low : (xs : Bytes) → Each IsByte xs → length xs ≤ 4 → number 0 xs < 4294967296
unfolding number
four_low [] a h = omega arith
four_low (x ∷ []) a h = omega (arith, a.0)
four_low (x ∷ y ∷ []) a h = omega (arith, a.0, a.1.0)
four_low (x ∷ y ∷ z ∷ []) a h = omega (arith, a.0, a.1.0, a.1.1.0)
four_low (x ∷ y ∷ z ∷ u ∷ []) a h = omega (arith, a.0, a.1.0, a.1.1.0, a.1.1.1.0)
four_low (x ∷ y ∷ z ∷ u ∷ v ∷ xs) a h = absurd (omega arith)

each_drop : {A : Type 0} (P : A → Type 0) (n : ℕ) (xs : List A) → Each P xs → Each P (drop n xs)
each_drop P zero xs a = a
each_drop P (suc n) [] a = tt
each_drop P (suc n) (x ∷ xs) a = each_drop P n xs a.1

each_part : (at n : ℕ) (d : Bytes) → Each IsByte d → Each IsByte (part at n d)
unfolding part
each_part at n d a = each_take IsByte n (drop at d) (each_drop IsByte at d a)

be4_low : (b : Bytes) (at : ℕ) → Each IsByte b → be4 b at < 4294967296
unfolding be4 part
be4_low b at a = four_low (part at 4 b) (each_part at 4 b a) (omega (arith, length-take 4 (drop at b)))

stamp_low : (b : Bytes) → Each IsByte b → stamp_in b < 10 ^ 20
unfolding stamp_in
stamp_low b a = omega (arith, be4_low b 12 a, be4_low b 16 a)

each_journal_at : (s : Shape) (d : Bytes) (c p : ℕ) → Each IsByte d → Each IsByte (journal_at s d c p)
unfolding journal_at block_at
each_journal_at s d c p a = each_part (128 * journal_block s c p) 128 d a

-- no more cores are named than there are
cores_few : (ns : List Name) → cores_named ns ≤ 8
unfolding cores_named
cores_few ns = omega (arith, select_length (λ (c : ℕ). any (λ (n : Name). eqb c n.core) ns) (below 8), length_below 8)

-- the numbers of a transaction of a disk fit the columns of its line
pub record Fits (d : Bytes) (e : Committed) : Type 0 where
  pub core : e.core < 10 ^ 2
  pub number : e.number < 10 ^ 10
  pub stamp : e.stamp < 10 ^ 20
  pub count : e.count < 10 ^ 2
  pub named : cores_on d e < 10 ^ 2

-- the shape that the head shows is within its limits
pub shape_limits : (d : Bytes) → page_refusal d ≡ 0 → InRange (shape_on d)
unfolding shape_on
shape_limits d h = master_limits (block_at d 0) ((refusal_numbers d).2.0 h).1

-- each transaction of a disk's page fits
pub committed_fits : (d : Bytes) → page_refusal d ≡ 0 → Each IsByte d → (e : Committed) → Memᴰ e (committed_on d) → Fits d e
unfolding committed_by
committed_fits d h a e m =
    let s = shape_on d in
    let r = journals_known (layout_on d) s d (tail_on d) (λ (c : ℕ). s.journal) e m in
    let k = r.1.1 in
    let f = journal_at s d e.core (e.position + (e.count + 1)) in
    record {
      core = omega (arith, r.0, (shape_limits d h).few_cores);
      number = omega (arith, k.number, descriptor_number s _ _ k.descriptor);
      stamp = omega (arith, k.stamp, stamp_low f (each_journal_at s d e.core (e.position + (e.count + 1)) a));
      count = omega (arith, k.few);
      named = omega (arith, cores_few (names_of (layout_on d) s d e));
    }

-- core and end fit the columns of their line
pub end_fits : (d : Bytes) → page_refusal d ≡ 0 → (c : ℕ) → c < (shape_on d).cores → (c < 10 ^ 2) × (end_on d c < 10 ^ 2)
unfolding end_on
end_fits d h c l = (omega (arith, l, (shape_limits d h).few_cores), omega (arith, (end_known (layout_on d) (shape_on d) d c (tail_on d c)).1))
