-- What the journals give are records that were read: each has its descriptor and commit on the disk, so its blocks are
-- below B and its images are blocks; no two have one name; the newest of some is one of them.
use Prim.Native.Nat.{ℕ, ◌+◌, ◌<◌}
use native.Mathlib.Omega.{arith}
use mathlib.Core.Path.{◌≡◌, refl, sym, ap, ◌∙◌, subst}
use mathlib.Core.Bool.{true, ◌&&◌}
use mathlib.Core.List.Memᴰ
use mathlib.Core.List.{List, [], ◌∷◌, Memᴰ}
use lib.ListN.{length, get_or, length-map}
use lib.Dec.{ltb, leb}
use borrow.Author.Tests.{ltb-true}
use Rattle.model.specs.Lists.{below, all, Each}
use Rattle.model.specs.Bytes.{Bytes}
use Rattle.model.specs.Shape.{journal_block}
use Rattle.model.specs.Layout.{Tag, pairs_in, has_head, block_count, tags_in, distinct, is_tag, is_descriptor}
use Rattle.model.specs.Journal.{name_of, journal_at, journal, journals, tags_of, blocks_of, took, image_of}
use Rattle.model.specs.Valid.{later, newest}
use Rattle.model.specs.Checkpoint.{oldest}
use Rattle.model.specs.Limits.{max_number}
use Rattle.model.specs.declared.Shape.{Shape}
use Rattle.model.specs.declared.Tail.{Tail}
use Rattle.model.specs.declared.Name.{Name}
use Rattle.model.specs.declared.CommitLayout.{CommitLayout}
use Rattle.model.specs.declared.Committed.{Committed}
use Rattle.std.specs.Prelude.{Option, Some, None}
use Rattle.model.proofs.Limits.{InRange}
use Rattle.model.proofs.Lists.{and_left, and_right, all_mem, get_or_mem, mem_get_or, mem_flat_map, mem_below, length_below}
use Rattle.model.proofs.Store.{length_block_at}
use Rattle.model.proofs.Encoding.{length_unescaped}
use Rattle.model.proofs.Journal.{journal_low, KnownRecord, records_known}
use Rattle.model.proofs.Shrink.{Distinct}
use Rattle.model.proofs.Command.{of_cond}

pub length_blocks_of : (s : Shape) (d : Bytes) (e : Committed) → length (blocks_of s d e) ≡ e.count
unfolding blocks_of tags_of tags_in pairs_in
length_blocks_of s d e = simp (length-map, length_below)

-- a block of a record read is below B
pub known_below : (y : CommitLayout) (s : Shape) (d : Bytes) (c k : ℕ) (e : Committed) → KnownRecord y s d c k e → (i : ℕ) → i < e.count → get_or (blocks_of s d e) i 0 < s.blocks
unfolding is_descriptor blocks_of tags_of is_tag
known_below y s d c k e r i h =
    let b = journal_at s d c e.position in
    let n = block_count b in
    let a : all (is_tag s) (tags_in b n) ≡ true =
    and_right (has_head 1 k b && leb k max_number && leb n 8) (all (is_tag s) (tags_in b n)) (and_left _ (distinct (tags_in b n)) r.descriptor) in
    let a₂ : all (is_tag s) (tags_of s d e) ≡ true = rw (r.core, ← r.count) a in
    let l : i < length (blocks_of s d e) = rw length_blocks_of h in
    let m = Memᴰ.of_map (λ (x : Tag). x.block) (tags_of s d e) (get_or_mem (blocks_of s d e) i 0 l) in
    rw (← m.2) (ltb-true m.0.block s.blocks (and_left (ltb m.0.block s.blocks) _ (all_mem (is_tag s) (tags_of s d e) a₂ m.1)))

-- the one at index i, with its number
journal_at_lem : (y : CommitLayout) (s : Shape) (d : Bytes) (c : ℕ) (t : Tail) (most i : ℕ) → i < length (journal y s d c t most)
    → KnownRecord y s d c (t.number + i) (get_or (journal y s d c t most) i (oldest []))
unfolding journal
journal_at_lem y s d c t most i h = (records_known y s d c most t.number t.position s.journal i (oldest []) h).0

pub journal_known : (y : CommitLayout) (s : Shape) (d : Bytes) (c : ℕ) (t : Tail) (most : ℕ) (e : Committed) → Memᴰ e (journal y s d c t most)
    → (i : ℕ) × KnownRecord y s d c (t.number + i) e
journal_known y s d c t most e m =
    let i = mem_get_or m (oldest []) in
    (i.0, subst (λ (e : Committed). KnownRecord y s d c (t.number + i.0) e) i.2 (journal_at_lem y s d c t most i.0 i.1))

pub journals_known : (y : CommitLayout) (s : Shape) (d : Bytes) (tail_at : ℕ → Tail) (most : ℕ → ℕ) (e : Committed) → Memᴰ e (journals y s d tail_at most)
    → (e.core < s.cores) × ((i : ℕ) × KnownRecord y s d e.core ((tail_at e.core).number + i) e)
unfolding journals
journals_known y s d tail_at most e m =
    let r = mem_flat_map (λ (c : ℕ). journal y s d c (tail_at c) (most c)) (below s.cores) m in
    let i = journal_known y s d r.0 (tail_at r.0) (most r.0) e r.2 in
    let q : r.0 ≡ e.core = sym i.1.core in
    (subst (λ (c : ℕ). c < s.cores) q (mem_below s.cores r.1), (i.0, subst (λ (c : ℕ). KnownRecord y s d c ((tail_at c).number + i.0) e) q i.1))

-- one with a block is one of the list
pub oldest_mem : (es : List Committed) (i : ℕ) → i < (oldest es).count → Memᴰ (oldest es) es
unfolding oldest
oldest_mem [] i h = absurd (omega arith)
oldest_mem (e ∷ es) i h = Memᴰ.head refl

-- ---- blocks read are blocks
module _ {s : Shape} (l : InRange s) (d : Bytes) (n : length d ≡ 32896) where
  pub length_journal_at : (c p : ℕ) → c < s.cores → length (journal_at s d c p) ≡ 128
  unfolding journal_at
  length_journal_at c p h = length_block_at 257 d n (journal_block s c p) (journal_low l c p h)

  pub length_image_of : (e : Committed) (i : ℕ) → e.core < s.cores → length (image_of s d e i) ≡ 128
  unfolding image_of
  length_image_of e i h =
      let q = length_journal_at e.core (e.position + (i + 1)) h in
      length_unescaped (journal_at s d e.core (e.position + (i + 1))) (omega arith) _ ∙ q

-- ---- names
-- no two of the transactions read have one name
pub journals_distinct : (y : CommitLayout) (s : Shape) (d : Bytes) (tail_at : ℕ → Tail) (most : ℕ → ℕ) → Distinct name_of (journals y s d tail_at most)
unfolding journals
journals_distinct y s d tail_at most t u m n e =
    let f : ℕ → List Committed = λ c. journal y s d c (tail_at c) (most c) in
    let p = mem_flat_map f (below s.cores) m in
    let q = mem_flat_map f (below s.cores) n in
    same p.0 q.0 (mem_get_or p.2 (oldest [])) (mem_get_or q.2 (oldest []))
  where
    same : (c c₂ : ℕ)
        → ((i : ℕ) × (i < length (journal y s d c (tail_at c) (most c))) × (get_or (journal y s d c (tail_at c) (most c)) i (oldest []) ≡ t))
        → ((i : ℕ) × (i < length (journal y s d c₂ (tail_at c₂) (most c₂))) × (get_or (journal y s d c₂ (tail_at c₂) (most c₂)) i (oldest []) ≡ u)) → t ≡ u
    same c c₂ x z =
        let a : KnownRecord y s d c ((tail_at c).number + x.0) t = subst (λ (t : Committed). KnownRecord y s d c ((tail_at c).number + x.0) t) x.2 (journal_at_lem y s d c (tail_at c) (most c) x.0 x.1) in
        let b : KnownRecord y s d c₂ ((tail_at c₂).number + z.0) u =
        subst (λ (u : Committed). KnownRecord y s d c₂ ((tail_at c₂).number + z.0) u) z.2 (journal_at_lem y s d c₂ (tail_at c₂) (most c₂) z.0 z.1) in
        let g : c ≡ c₂ = sym a.core ∙ (ap (λ (n : Name). n.core) e ∙ b.core) in
        let k : (tail_at c).number + x.0 ≡ (tail_at c₂).number + z.0 = sym a.number ∙ (ap (λ (n : Name). n.number) e ∙ b.number) in
        let r : (tail_at c).number ≡ (tail_at c₂).number = rw g in
        let i : x.0 ≡ z.0 = omega arith in
        sym x.2 ∙ (rw (g, i) z.2)

-- ---- the newest
abbrev pub IfFound : (Committed → Type 0) → Option Committed → Type 0
IfFound P None = Unit {0}
IfFound P (Some e) = P e

-- the newest of some is one of them
module _ (P : Committed → Type 0) where
  later_holds : (best : Option Committed) (e : Committed) → IfFound P best → P e → P (later best e)
  unfolding later
  later_holds None e f p = p
  later_holds (Some a) e f p = of_cond P (leb a.stamp e.stamp) p f

  pub newest_holds : (s : Shape) (d : Bytes) (b : ℕ) (es : List Committed) (best : Option Committed) → IfFound P best → Each P es → IfFound P (newest s d b best es)
  unfolding newest
  newest_holds s d b [] best f p = f
  newest_holds s d b (e ∷ es) best f p = newest_holds s d b es _ (of_cond (IfFound P) (took s d b e) (later_holds best e f p.0) f) p.1
