-- A journal past its first record, as RETIRE leaves it: of any ledger in order, on any disk on which that journal stands. The record of the
-- oldest transaction comes first; what follows it stands from the moved tail on.
use Rattle.model.proofs.Base.{ℕ, suc, ◌+◌, ◌-◌, ◌%◌, ◌<◌, arith, ◌≡◌, refl, ap, ◌∙◌, ◌≢◌, true, List, [], ◌++◌, flat_map, append_assoc, length, take, get_or, length-append, below, Bytes}
use native.Mathlib.Nat.{mod-lt}
use lib.Seq.{get_or-append-add}
use Rattle.model.specs.Bytes.{block_at}
use Rattle.model.specs.Card.{new_name, new_tail}
use Rattle.model.specs.Journal.{journal_at}
use Rattle.model.specs.declared.Name.{Name}
use Rattle.model.specs.declared.Tail.{Tail}
use Rattle.model.proofs.Lists.{flat_map_below, flat_map_first}
use Rattle.model.proofs.Journal.{journal_wrap}
use Rattle.crash.specs.Book.{retired, is_closed, stage_count, raise}
use Rattle.crash.specs.Ledger.{Ledger, record_blocks, record_of}
use Rattle.crash.proofs.Books.BookEntries.{raise_at, records_cons, next_name, oldest_name, uncommitted_name}
use Rattle.crash.proofs.Disk.Relation.{WellFormed, contents, JournalStands}
use Rattle.crash.proofs.Disk.RecordFormat.{length_record}
use Rattle.crash.proofs.Disk.LedgerCheckpoint.{advanced, record_stays, closing_stays, journal_advanced}

-- of core c: the blocks of the first record, the ledger past it, and the moved tail
abbrev pub first_size : ℕ → Ledger → ℕ
first_size c l = length (l.book.entry (oldest_name c l.book)).blocks + 2

abbrev pub past_first : ℕ → Ledger → Ledger
past_first c l = advanced l (oldest_name c l.book) retired (raise c l.book.oldest)

abbrev pub past_tail : ℕ → Ledger → Tail → Tail
past_tail c l tail = new_tail (l.book.oldest c + 1) ((tail.position + first_size c l) % l.shape.journal)

module _ {l : Ledger} (f : WellFormed l) (c : ℕ) (in_range_lem : c < l.shape.cores) (some_committed : l.book.oldest c < l.book.uncommitted c) where
  abbrev first : Name
  first = oldest_name c l.book

  abbrev past : Ledger
  past = past_first c l

  abbrev n : ℕ
  n = first_size c l

  -- it is neither the one being stored nor the running one, of any core
  pub not_closing : (a : ℕ) → uncommitted_name a l.book ≢ first
  not_closing a q =
      let z : l.book.uncommitted a ≡ l.book.uncommitted c = ap (λ (v : Name). l.book.uncommitted v.core) q in
      let y : l.book.uncommitted a ≡ l.book.oldest c = ap (λ (v : Name). v.number) q in
      omega arith

  pub not_current : (a : ℕ) → next_name a l.book ≢ first
  not_current a q =
      let z : l.book.next a ≡ l.book.next c = ap (λ (v : Name). l.book.next v.core) q in
      let y : l.book.next a ≡ l.book.oldest c = ap (λ (v : Name). v.number) q in
      omega (arith, (f.ranks c in_range_lem).mid)

  pub first_closed : is_closed (l.book.entry first).stage ≡ true
  first_closed = ap is_closed ((f.ranks c in_range_lem).first some_committed).1

  first_long : length (record_of l first) ≡ n
  first_long = length_record f first first_closed

  -- the journal without its first record
  pub contents_past : contents l c ≡ record_of l first ++ contents past c
  unfolding contents
  contents_past =
      let k = l.book in
      let o = k.oldest c in
      let o₂ = raise c k.oldest in
      let i : k.uncommitted c - o ≡ suc (k.uncommitted c - suc o) = omega arith in
      let v = uncommitted_name c k in
      let g : ℕ → List Bytes = λ j. record_of l (new_name c (o + j)) in
      let last = take (stage_count (k.entry v).stage) (record_of l v) in
      let head : new_name c (o + 0) ≡ first = ap (new_name c) (omega arith) in
      let rest : flat_map (λ (j : ℕ). record_of past (new_name c (suc o + j))) (below (k.uncommitted c - suc o)) ≡ flat_map (λ (j : ℕ). g (suc j)) (below (k.uncommitted c - suc o)) =
      flat_map_below _ _ (k.uncommitted c - suc o)
      (λ j h. let s : suc o + j ≡ o + suc j = omega arith in record_stays l first retired o₂ (new_name c (suc o + j)) ∙ ap (λ (m : ℕ). record_of l (new_name c m)) s) in
      rw (raise_at c k.oldest, closing_stays l first retired o₂ c (not_closing c) (not_current c), record_stays l first retired o₂ v, rest, i)
      (ap (λ (y : List Bytes). y ++ last) (flat_map_first g (k.uncommitted c - suc o))
      ∙ append_assoc (g 0) (flat_map (λ (j : ℕ). g (suc j)) (below (k.uncommitted c - suc o))) last
      ∙ rw head refl)

  pub length_past : length (contents l c) ≡ n + length (contents past c)
  length_past = ap length contents_past ∙ length-append (record_of l first) (contents past c) ∙ ap (λ (i : ℕ). i + length (contents past c)) first_long

  -- the blocks of the records up to number m
  pub records_past : (m : ℕ) → l.book.oldest c < m
      → record_blocks l.book c (l.book.oldest c) (m - l.book.oldest c) ≡ n + record_blocks l.book c (suc (l.book.oldest c)) (m - suc (l.book.oldest c))
  records_past m h =
      let i : m - l.book.oldest c ≡ suc (m - suc (l.book.oldest c)) = omega arith in
      rw i (records_cons l.book c (l.book.oldest c) (m - suc (l.book.oldest c)))

  -- what stands from the tail on, stands from the moved tail on
  pub stands_past : (d : Bytes) (p : ℕ) → ((q : ℕ) → q < length (contents l c) → journal_at l.shape d c (p + q) ≡ get_or (contents l c) q [])
      → (q : ℕ) → q < length (contents past c) → journal_at l.shape d c ((p + n) % l.shape.journal + q) ≡ get_or (contents past c) q []
  stands_past d p j q h =
      let s = l.shape in
      let m = length (record_of l first) in
      let a : p + n + q ≡ p + (m + q) = omega (arith, first_long) in
      let b : m + q < length (contents l c) = omega (arith, length_past, first_long) in
      let wraps : journal_at s d c ((p + n) % s.journal + q) ≡ journal_at s d c (p + n + q) = unfold journal_at in ap (block_at d) (journal_wrap s c (p + n) q) in
      wraps
      ∙ ap (journal_at s d c) a
      ∙ j (m + q) b
      ∙ ap (λ (y : List Bytes). get_or y (m + q) []) contents_past
      ∙ get_or-append-add (record_of l first) (contents past c) q []

  pub journal_past : (d d₂ : Bytes) (tail : Tail) → ((q : ℕ) → journal_at l.shape d₂ c q ≡ journal_at l.shape d c q)
      → JournalStands l d c tail → JournalStands past d₂ c (past_tail c l tail)
  journal_past d d₂ tail at j =
      let up = raise_at c l.book.oldest in
      journal_advanced l first retired (raise c l.book.oldest) c (not_closing c) (not_current c) d d₂ tail (past_tail c l tail) at
      (rw up (omega arith)) (mod-lt (tail.position + n) (omega (arith, f.range.long)))
      (stands_past d tail.position j.stands)
      (rw up (omega (arith, records_past (l.book.next c) (omega (arith, (f.ranks c in_range_lem).mid))))) j
