-- Paper 02, request (b): 'A journal reader that says why it stopped'. One record read with its four ends, and the end of a journal.
use Rattle.std.specs.Prelude.{ℕ, zero, suc, ◌+◌, ◌-◌, ◌%◌, List, [], ◌∷◌, Bool, cond, not, ◌||◌, ltb, eqb, Result, Ok, Err}
use Rattle.model.specs.Limits.{max_taken, max_number}
use Rattle.model.specs.Lists.{all}
use Rattle.model.specs.Bytes.{Bytes}
use Rattle.model.specs.Layout.{has_head, block_count, tags_in, is_tag, distinct, is_commit, stamp_in}
use Rattle.model.specs.Journal.{journal_at}
use Rattle.model.specs.declared.Shape.{Shape}
use Rattle.model.specs.declared.Tail.{Tail}
use Rattle.model.specs.declared.CommitLayout.{CommitLayout}
use Rattle.model.specs.declared.Committed.{Committed}
use Rattle.model.specs.declared.JournalEnd.{JournalEnd}
use Rattle.model.specs.declared.JournalEnd.TheVariants.{NoDescriptor, BadDescriptor, TooFewBlocks, NoCommit}

-- '1, no descriptor of the expected number, that number above 4,000,000,000, or no block left for one'
unfoldable pub lacks_descriptor : ℕ → ℕ → Bytes → Bool
lacks_descriptor k left b = eqb left 0 || ltb max_number k || not (has_head 1 k b)

-- '2, a descriptor field out of range or a block twice'
unfoldable pub has_bad_field : Shape → Bytes → Bool
has_bad_field s b =
    let n = block_count b in
    ltb max_taken n || not (all (is_tag s) (tags_in b n)) || not (distinct (tags_in b n))

-- 'The routine that reads one record now answers one of four ends': those two, '3, too few blocks left for data and commit;
-- 4, no commit of that number with its fields in range. The first that fits is answered.'
unfoldable pub read_record : CommitLayout → Shape → Bytes → ℕ → ℕ → ℕ → ℕ → Result Committed JournalEnd
read_record y s d c k p left =
    let e = journal_at s d c p in
    let n = block_count e in
    let f = journal_at s d c (p + (n + 1)) in
    cond (lacks_descriptor k left e) (Err NoDescriptor)
    (cond (has_bad_field s e) (Err BadDescriptor)
    (cond (ltb left (n + 2)) (Err TooFewBlocks)
    (cond (not (is_commit y s k f)) (Err NoCommit)
    (Ok (record { core = c; number = k; position = p; count = n; stamp = stamp_in f })))))

-- the number of each end
unfoldable pub end_number : JournalEnd → ℕ
end_number NoDescriptor = 1
end_number BadDescriptor = 2
end_number TooFewBlocks = 3
end_number NoCommit = 4

-- what each answer stands for: the number of its end, 0 for the record, and its values
unfoldable pub record_answer : Result Committed JournalEnd → ℕ × List ℕ
record_answer (Ok e) = (0, e.core ∷ e.number ∷ e.position ∷ e.count ∷ e.stamp ∷ [])
record_answer (Err x) = (end_number x, [])

-- 'why it stopped': the answer at the first position where no record is read, past at most so many of them
unfoldable pub end_from : ℕ → CommitLayout → Shape → Bytes → ℕ → ℕ → ℕ → ℕ → Result Committed JournalEnd
end_from zero y s d c k p left = read_record y s d c k p left
end_from (suc most) y s d c k p left =
    elim (read_record y s d c k p left) [
      | Ok e ↦ end_from most y s d c (k + 1) ((p + (e.count + 2)) % s.journal) (left - (e.count + 2))
      | Err x ↦ Err x
    ]

-- the end of core c's journal, read from its tail over all of J
unfoldable pub journal_end : CommitLayout → Shape → Bytes → ℕ → Tail → Result Committed JournalEnd
journal_end y s d c t = end_from s.journal y s d c t.number t.position s.journal
