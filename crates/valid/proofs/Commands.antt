-- For CHECKPOINT, RETIRE and RECOVER: the records that were read are the journals, and what the counts were lowered to is the valid set.
use Rattle.model.proofs.Base.{ℕ, ◌<◌, arith, ◌≡◌, ap, ◌∙◌, List, get_or, lt-ltb, Bytes}
use Rattle.model.specs.Journal.{journal, journals}
use Rattle.model.specs.Valid.{Order, valid_set}
use Rattle.model.specs.declared.Shape.{Shape}
use Rattle.model.specs.declared.Tail.{Tail}
use Rattle.model.specs.declared.CommitLayout.{CommitLayout}
use Rattle.model.proofs.Limits.{InRange}
use Rattle.journal.specs.Records.{tail_for, numbers_of, records_in}
use Rattle.journal.specs.declared.extents.Extent.{Extent}
use Rattle.journal.specs.Walk.{Reads}
use Rattle.valid.specs.Sets.{tail_number, numbered}
use Rattle.journal.proofs.Reading.{number_at, reads_journals}
use Rattle.valid.proofs.Model.{valid_tails, journals_tails}

-- any reading, of tails that an array holds and with bounds that do not cut it short
module _ (y : CommitLayout) {s : Shape} (l : InRange s) (d : Bytes) (ts : List Tail) (most : List ℕ) (xs : List Extent) (start count : List ℕ) (r : Reads y s d ts most xs start count)
    (tail_at : ℕ → Tail) (most_at : ℕ → ℕ) (tails : (c : ℕ) → c < s.cores → tail_for ts c ≡ tail_at c)
    (bounds : (c : ℕ) → c < s.cores → journal y s d c (tail_at c) (get_or most c 0) ≡ journal y s d c (tail_at c) (most_at c)) where
  pub core_journal : (c : ℕ) → c < s.cores → journal y s d c (tail_for ts c) (get_or most c 0) ≡ journal y s d c (tail_at c) (most_at c)
  core_journal c h = ap (λ (t : Tail). journal y s d c t (get_or most c 0)) (tails c h) ∙ bounds c h

  -- the records read are the journals
  pub records_read : records_in s xs (numbers_of ts) start count ≡ journals y s d tail_at most_at
  records_read =
      reads_journals y s d ts most xs start count r l ∙ journals_tails y s d (tail_for ts) tail_at (λ (c : ℕ). get_or most c 0) most_at core_journal

  same_number : (c : ℕ) → c < s.cores → (numbered (numbers_of ts) c).number ≡ (tail_at c).number
  unfolding numbered tail_number
  same_number c h =
      let e : c < 8 = omega (arith, l.few_cores) in
      rw (lt-ltb c 8 e) (number_at ts c e ∙ ap (λ (t : Tail). t.number) (tails c h))

  -- what `valid_runs` leaves is the valid set
  pub records_valid : (o : Order) (begin few : List ℕ)
      → records_in s xs (numbers_of ts) begin few ≡ valid_set o y s d (numbered (numbers_of ts)) (records_in s xs (numbers_of ts) start count)
      → records_in s xs (numbers_of ts) begin few ≡ valid_set o y s d tail_at (journals y s d tail_at most_at)
  records_valid o begin few v =
      v ∙ ap (valid_set o y s d (numbered (numbers_of ts))) records_read ∙ valid_tails o y s d (numbered (numbers_of ts)) tail_at same_number tail_at most_at
