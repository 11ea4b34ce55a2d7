-- One step of reading a journal, and what the records read must be.
use Rattle.std.specs.Prelude.{ℕ, ◌+◌, ◌-◌, ◌%◌, ◌≤◌, ◌<◌, List, ◌≡◌, get_or}
use Rattle.model.specs.Lists.{below, total}
use Rattle.model.specs.Bytes.{Bytes}
use Rattle.model.specs.Journal.{journal}
use Rattle.model.specs.declared.Shape.{Shape}
use Rattle.model.specs.declared.Tail.{Tail}
use Rattle.model.specs.declared.CommitLayout.{CommitLayout}
use Rattle.model.specs.declared.Committed.{Committed}
use Rattle.journal.specs.declared.walk.Walk.{Walk}
use Rattle.journal.specs.declared.extents.Extent.{Extent}
use Rattle.journal.specs.Records.{tail_for, extent_at, run_in}

-- where the reading of a journal begins: at its tail, with all of its blocks left
abbrev pub walk_from : Shape → Tail → Walk
walk_from s t = record { number = t.number; at = t.position; left = s.journal }

-- and where it stands behind a record
abbrev pub past : Shape → Walk → Committed → Walk
past s w e = record { number = w.number + 1; at = (w.at + (e.count + 2)) % s.journal; left = w.left - (e.count + 2) }

-- n records of core c from place a on are its journal, up to so many of its records
unfoldable pub IsJournal : CommitLayout → Shape → Bytes → ℕ → Tail → ℕ → List Extent → ℕ → ℕ → Type 0
IsJournal y s d c t most xs a n = run_in xs c t.number a n ≡ journal y s d c t most

-- the first n places of two arrays are the same
unfoldable pub SameTo : ℕ → List Extent → List Extent → Type 0
SameTo n xs ys = (i : ℕ) → i < n → extent_at ys i ≡ extent_at xs i

-- core c's journal was read into n places from a on, and those before them are as they were; xs and ys are the extents before and after
pub record JournalRead (y : CommitLayout) (s : Shape) (d : Bytes) (c : ℕ) (t : Tail) (most a : ℕ) (xs ys : List Extent) (n : ℕ) : Type 0 where
  pub journal : IsJournal y s d c t most ys a n
  pub few : n ≤ 12
  pub extents : SameTo a xs ys

-- each core's records stand behind those of the cores before it
unfoldable pub Behind : Shape → List ℕ → List ℕ → Type 0
Behind s start count = (c : ℕ) → c < s.cores → get_or start c 0 ≡ total (λ (b : ℕ). get_or count b 0) (below c)

-- so they stand, and those of each core are its journal
pub record Reads (y : CommitLayout) (s : Shape) (d : Bytes) (ts : List Tail) (most : List ℕ) (xs : List Extent) (start count : List ℕ) : Type 0 where
  pub journals : (c : ℕ) → c < s.cores → IsJournal y s d c (tail_for ts c) (get_or most c 0) xs (get_or start c 0) (get_or count c 0)
  pub behind : Behind s start count
  pub few : (c : ℕ) → c < s.cores → get_or count c 0 ≤ 12
