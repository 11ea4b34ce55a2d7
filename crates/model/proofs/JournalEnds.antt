-- The reader with four ends finds what the reading was defined by before: a record exactly where `record_at` is `Some`, and the same one.
use Rattle.model.proofs.Base.{ℕ, zero, suc, ◌+◌, ◌-◌, ◌%◌, ◌≤◌, arith, dec_lt, ◌≡◌, refl, sym, ap, ◌∙◌, Bool, true, false, cond, not}
use Rattle.model.proofs.Base.{◌&&◌, ◌||◌, eqb, ltb, leb, eqb-true, lt-leb, le-leb, lt-ltb, le-ltb, all, Bytes}
use mathlib.Core.Bool.{and-false}
use Rattle.model.specs.Limits.{max_taken, max_number}
use Rattle.model.specs.Layout.{has_head, block_count, tags_in, is_tag, distinct, is_descriptor, is_commit}
use Rattle.model.specs.Journal.{journal_at, record_at}
use Rattle.model.specs.JournalEnds.{lacks_descriptor, has_bad_field, read_record, end_from}
use Rattle.model.specs.declared.Shape.{Shape}
use Rattle.model.specs.declared.CommitLayout.{CommitLayout}
use Rattle.model.specs.declared.Committed.{Committed}
use Rattle.std.specs.Prelude.{Option, Some, None, Result, Ok, Err}
use Rattle.model.specs.declared.JournalEnd.{JournalEnd}
use Rattle.model.specs.declared.JournalEnd.TheVariants.{NoDescriptor, BadDescriptor, TooFewBlocks, NoCommit}

-- ---- the same records
-- what an answer finds: the record, or none whatever the end
unfoldable pub found_by : Result Committed JournalEnd → Option Committed
found_by (Ok e) = Some e
found_by (Err x) = None

found_whole : (r : Result Committed JournalEnd) (e : Committed) → found_by r ≡ Some e → r ≡ Ok e
unfolding found_by
found_whole (Ok x) e h = cc
found_whole (Err x) e h = cc

-- the reading goes on behind a record alone
stops : (r : Result Committed JournalEnd) (f : Committed → Result Committed JournalEnd) → found_by r ≡ None
    → ◌≡◌ {A = Result Committed JournalEnd} (elim r [ Ok e ↦ f e | Err x ↦ Err x ]) r
unfolding found_by
stops (Ok e) f h = cc
stops (Err x) f h = refl

leb_not : (m n : ℕ) → leb m n ≡ not (ltb n m)
leb_not m n = elim (dec_lt n m) [ yes h ↦ rw (lt-leb m n h, lt-ltb n m h) | no h ↦ let g : m ≤ n = omega arith in rw (le-leb m n g, le-ltb n m g) ]

-- the conditions of a descriptor, parted as ends 1 and 2 part them
parted : (h x g t u : Bool) → (h && not x && not g && t && u) ≡ (not (x || not h) && not (g || not t || not u))
parted true true g t u = refl
parted true false true t u = refl
parted true false false true true = refl
parted true false false true false = refl
parted true false false false u = refl
parted false true g t u = refl
parted false false g t u = refl

descriptor_parts : (s : Shape) (k : ℕ) (b : Bytes) → is_descriptor s k b ≡ (not (ltb max_number k || not (has_head 1 k b)) && not (has_bad_field s b))
unfolding is_descriptor has_bad_field
descriptor_parts s k b =
    rw (leb_not k max_number, leb_not (block_count b) max_taken)
    (parted (has_head 1 k b) (ltb max_number k) (ltb max_taken (block_count b)) (all (is_tag s) (tags_in b (block_count b))) (distinct (tags_in b (block_count b))))

-- where no block is left there are too few
chosen : (z x y g m w : Bool) (e : Committed) → (z ≡ true → m ≡ true)
    → found_by (cond (z || x || y) (Err NoDescriptor) (cond g (Err BadDescriptor) (cond m (Err TooFewBlocks) (cond (not w) (Err NoCommit) (Ok e)))))
    ≡ cond (not (x || y) && not g && not m && w) (Some e) None
unfolding found_by
chosen true x y g m w e h = rw (h refl, and-false)
chosen false true y g m w e h = refl
chosen false false true g m w e h = refl
chosen false false false true m w e h = refl
chosen false false false false true w e h = refl
chosen false false false false false true e h = refl
chosen false false false false false false e h = refl

-- 'What recovery keeps is the same as before.': for every shape, disk, core, number, position and count of blocks left
pub same_found : (y : CommitLayout) (s : Shape) (d : Bytes) (c k p left : ℕ) → found_by (read_record y s d c k p left) ≡ record_at y s d c k p left
unfolding read_record record_at lacks_descriptor
same_found y s d c k p left =
    let b = journal_at s d c p in
    let n = block_count b in
    rw (descriptor_parts s k b, leb_not (n + 2) left)
    (chosen (eqb left 0) (ltb max_number k) (not (has_head 1 k b)) (has_bad_field s b) (ltb left (n + 2)) (is_commit y s k (journal_at s d c (p + (n + 1)))) _
    (λ z. let y : left ≡ 0 = eqb-true left 0 z in lt-ltb left (n + 2) (omega arith)))

module _ (y : CommitLayout) (s : Shape) (d : Bytes) (c k p left : ℕ) where
  -- of an answer that a call gave
  pub found_as : (r : Result Committed JournalEnd) → r ≡ read_record y s d c k p left → found_by r ≡ record_at y s d c k p left
  found_as r e = ap found_by e ∙ same_found y s d c k p left

  pub read_whole : (e : Committed) → read_record y s d c k p left ≡ Ok e → record_at y s d c k p left ≡ Some e
  unfolding found_by
  read_whole e h = sym (same_found y s d c k p left) ∙ ap found_by h

  pub whole_read : (e : Committed) → record_at y s d c k p left ≡ Some e → read_record y s d c k p left ≡ Ok e
  whole_read e h = found_whole (read_record y s d c k p left) e (same_found y s d c k p left ∙ h)

  -- a step of the reading on
  pub end_here : (most : ℕ) → record_at y s d c k p left ≡ None → end_from most y s d c k p left ≡ read_record y s d c k p left
  unfolding end_from
  end_here zero h = refl
  end_here (suc most) h = stops (read_record y s d c k p left) (λ e. end_from most y s d c (k + 1) ((p + (e.count + 2)) % s.journal) (left - (e.count + 2))) (same_found y s d c k p left ∙ h)

  pub end_on : (most : ℕ) (e : Committed) → record_at y s d c k p left ≡ Some e
      → end_from (suc most) y s d c k p left ≡ end_from most y s d c (k + 1) ((p + (e.count + 2)) % s.journal) (left - (e.count + 2))
  unfolding end_from
  end_on most e h = rw (end_from, whole_read e h)
