-- What stands in the journals: one record, one journal, all of them. 'A journal is read from its tail'.
use Rattle.std.specs.Prelude.{ℕ, zero, suc, ◌+◌, ◌-◌, ◌%◌, Bool, cond, ◌&&◌, get_or, leb, eqb}
use mathlib.Core.List.{List, [], ◌∷◌, map, flat_map}
use Rattle.model.specs.Lists.{below, any}
use Rattle.model.specs.Bytes.{Bytes, block_at}
use Rattle.model.specs.Shape.{journal_block}
use Rattle.model.specs.Card.{new_name}
use Rattle.model.specs.Layout.{Tag, new_tag, is_descriptor, block_count, tags_in, is_commit, stamp_in, names_in, unescaped}
use Rattle.model.specs.declared.Shape.{Shape}
use Rattle.model.specs.declared.Tail.{Tail}
use Rattle.model.specs.declared.Name.{Name}
use Rattle.model.specs.declared.CommitLayout.{CommitLayout}
use Rattle.model.specs.declared.Committed.{Committed}
use Rattle.std.specs.Prelude.{Option, Some, None}

-- the block at a position of core c's journal
unfoldable pub journal_at : Shape → Bytes → ℕ → ℕ → Bytes
journal_at s d c p = block_at d (journal_block s c p)

-- 'a descriptor with the expected number ..; then at n + 1 a commit with that number ..; all records within J':
-- the record at position p, of no more blocks than are left
unfoldable pub record_at : CommitLayout → Shape → Bytes → ℕ → ℕ → ℕ → ℕ → Option Committed
record_at y s d c k p left =
    let e = journal_at s d c p in
    let n = block_count e in
    let f = journal_at s d c (p + (n + 1)) in
    cond (is_descriptor s k e && leb (n + 2) left && is_commit y s k f)
    (Some (record { core = c; number = k; position = p; count = n; stamp = stamp_in f }))
    None

-- 'Records follow one another from the tail.' 'At the first miss it ends.': at most so many from a position on
unfoldable pub records_from : ℕ → CommitLayout → Shape → Bytes → ℕ → ℕ → ℕ → ℕ → List Committed
records_from zero y s d c k p left = []
records_from (suc most) y s d c k p left =
    elim (record_at y s d c k p left)
    [ None ↦ [] | Some e ↦ e ∷ records_from most y s d c (k + 1) ((p + (e.count + 2)) % s.journal) (left - (e.count + 2)) ]

-- core c's journal from its tail, at most so many of its transactions
unfoldable pub journal : CommitLayout → Shape → Bytes → ℕ → Tail → ℕ → List Committed
journal y s d c t most = records_from most y s d c t.number t.position s.journal

-- all journals, in order of core and number
unfoldable pub journals : CommitLayout → Shape → Bytes → (ℕ → Tail) → (ℕ → ℕ) → List Committed
journals y s d tail_at most = flat_map (λ (c : ℕ). journal y s d c (tail_at c) (most c)) (below s.cores)

-- ---- a committed transaction: its name, blocks with their flags in the order taken, names, and images
abbrev pub name_of : Committed → Name
name_of e = new_name e.core e.number

unfoldable pub tags_of : Shape → Bytes → Committed → List Tag
tags_of s d e = tags_in (journal_at s d e.core e.position) e.count

unfoldable pub blocks_of : Shape → Bytes → Committed → List ℕ
blocks_of s d e = map (λ (h : Tag). h.block) (tags_of s d e)

unfoldable pub names_of : CommitLayout → Shape → Bytes → Committed → List Name
names_of y s d e = names_in y (journal_at s d e.core (e.position + (e.count + 1)))

-- it took block b
unfoldable pub took : Shape → Bytes → ℕ → Committed → Bool
took s d b e = any (eqb b) (blocks_of s d e)

-- the image of its i-th block
unfoldable pub image_of : Shape → Bytes → Committed → ℕ → Bytes
image_of s d e i = unescaped (get_or (tags_of s d e) i (new_tag 0 0)).flag (journal_at s d e.core (e.position + (i + 1)))
