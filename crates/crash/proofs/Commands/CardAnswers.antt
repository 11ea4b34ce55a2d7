-- On a card that agrees with the ledger, the commands of a card that is up are answered by the ledger's conditions:
-- each condition of the card is the ledger's. Only 26 counts the card's array of eight blocks, and there 25 has said
-- before that eight are enough. So the first that holds is the same, and with it the answer.
use Prim.Native.Nat.{ℕ, suc, ◌+◌, ◌-◌, ◌≤◌, ◌<◌}
use native.Mathlib.Omega.{arith}
use native.Mathlib.Decide.{dec_lt}
use mathlib.Core.Path.{◌≡◌, refl, ap, ap₂, ◌∙◌, sym}
use mathlib.Core.Logic.{◌⊎◌, inl, inr, ◌≢◌}
use mathlib.Core.Bool.{Bool, true, false, not, ◌&&◌}
use mathlib.Core.List.{List, [], ◌∷◌}
use mathlib.Core.Option.{some}
use lib.ListN.{length, length-append}
use lib.Dec.{ltb, leb}
use borrow.Author.Tests.{lt-ltb, le-ltb, le-leb, lt-leb, leb-false, ltb-false, ltb-true, not-false}
use Rattle.model.specs.Bytes.{Bytes}
use Rattle.model.specs.Card.{new_name, record_size, core_of}
use Rattle.model.specs.Command.{World, refusal, not_up, no_core, no_block}
use Rattle.model.specs.Write.{writer, rule_for, takes_block, closed_blocks, journal_full, write_conditions}
use Rattle.model.specs.Commit.{close_conditions, store_conditions}
use Rattle.model.specs.Checkpoint.{checkpoint_conditions, retire_conditions, oldest_conditions, found_conditions, committed_conditions}
use Rattle.model.specs.Limits.{max_number}
use Rattle.model.specs.Valid.{in_sequence}
use Rattle.model.proofs.Lists.{cases}
use Rattle.model.proofs.OneStore.{lengths_right}
use Rattle.crash.specs.Book.{absent, running, Entry, Book, taking, book_holder, write_book}
use Rattle.crash.specs.Ledger.{Ledger, record_blocks, not_up_for, write_refusals, close_refusals, store_refusals, checkpoint_refusals, retire_refusals, writer_blocks, limit_passes, journal_passes, number_passes, oldest_refusals}
use Rattle.crash.proofs.Commands.CardCheckpoint.{images_left_lem}
use Rattle.crash.proofs.Books.BookEntries.{records_snoc, next_name}
use Rattle.crash.proofs.Books.BookSteps.{begun, begun_same}
use Rattle.crash.proofs.Disk.Relation.{Matches, CardUp}
use Rattle.crash.proofs.Disk.LedgerStages.{running_present}
use Rattle.crash.proofs.Disk.ReadMaster.{shape_up}
use Rattle.crash.proofs.Disk.ReadCheckpoint.{none_committed, oldest_valid, oldest_shares}
use Rattle.crash.proofs.Commands.CardRules.{entry_free, entry_own, entry_running, entry_closed, live_runs, writer_matches, met_none, met_own, met_running, met_closed, rule_met, writer_after_lem}
use Rattle.model.specs.declared.Shape.{Shape}
use Rattle.model.specs.declared.Name.{Name}
use Rattle.model.specs.declared.Transaction.{Transaction}

-- ---- conditions one by one
-- the same conditions, each as far as none before it holds
pub data SameConditions : List (Bool × ℕ) → List (Bool × ℕ) → Type 0 where
  none_left : SameConditions [] []
  then : {p q : Bool} {n : ℕ} {xs ys : List (Bool × ℕ)} → p ≡ q → (q ≡ false → SameConditions xs ys) → SameConditions ((p, n) ∷ xs) ((q, n) ∷ ys)

pub same_refusal : {xs ys : List (Bool × ℕ)} → SameConditions xs ys → refusal xs ≡ refusal ys
unfolding refusal
same_refusal none_left = refl
same_refusal (then {q = q} e h) = rw e (cases q (λ t. rw t refl) (λ f. rw f (same_refusal (h f))))

module _ {l : Ledger} {w : World} (u : CardUp l w) where
  -- 1, 20, 22 and 5
  up_refusal : (c : ℕ) (xs ys : List (Bool × ℕ)) → (c < l.shape.cores → SameConditions xs ys) → refusal (not_up w ((no_core w c, 5) ∷ xs)) ≡ refusal (not_up_for c l ys)
  unfolding refusal no_core
  up_refusal c xs ys h =
      let same : SameConditions ((leb l.shape.cores c, 5) ∷ xs) ((leb l.shape.cores c, 5) ∷ ys) = then refl (λ e. h (leb-false l.shape.cores c e)) in
      rw (lengths_right w u.disk.size u.memory, shape_up u, u.phase, u.ledger) (same_refusal same)

  module _ (c : ℕ) (in_range_lem : c < l.shape.cores) where
    pub closing_live : (core_of w.card c).closed.live ≡ ltb (l.book.uncommitted c) (l.book.next c)
    closing_live =
        let y = u.cores c in_range_lem in
        elim (dec_lt (l.book.uncommitted c) (l.book.next c)) [
          | yes lt ↦ (y.closing lt).live ∙ sym (lt-ltb (l.book.uncommitted c) (l.book.next c) lt)
          | no ge ↦ y.none_closing (omega (arith, (u.well_formed.ranks c in_range_lem).mid)) ∙ sym (le-ltb (l.book.uncommitted c) (l.book.next c) (omega arith))
        ]

    -- the blocks of the closed unretired records
    closed_total : closed_blocks (core_of w.card c) ≡ record_blocks l.book c (l.book.oldest c) (l.book.next c - l.book.oldest c)
    unfolding closed_blocks record_size
    closed_total =
        let y = u.cores c in_range_lem in
        let r = u.well_formed.ranks c in_range_lem in
        let o = l.book.oldest c in
        let n = l.book.uncommitted c in
        elim (dec_lt n (l.book.next c)) [
          | yes lt ↦ (let e : l.book.next c - o ≡ suc (n - o) = omega (arith, r.low, y.one) in
              let a : o + (n - o) ≡ n = omega (arith, r.low) in
              let s : record_blocks l.book c o (suc (n - o)) ≡ record_blocks l.book c o (n - o) + (length (l.book.entry (new_name c n)).blocks + 2) =
              rw a at (records_snoc l.book c o (n - o)) in
              rw (e, s, (y.closing lt).live, (y.closing lt).blocks, y.used) refl)
          | no ge ↦ (let e : l.book.next c ≡ n = omega (arith, r.mid) in
              rw (y.none_closing (sym e), y.used, e) (omega arith))
        ]

  -- ---- CLOSE, STORE, CHECKPOINT and RETIRE
  pub close_answers : (c : ℕ) → refusal (close_conditions c w) ≡ refusal (close_refusals c l)
  unfolding close_conditions close_refusals
  close_answers c = up_refusal c _ _ (λ h. then (ap not (live_runs u c h)) (λ _. then (closing_live c h) (λ _. none_left)))

  pub store_answers : (c : ℕ) → refusal (store_conditions c w) ≡ refusal (store_refusals c l)
  unfolding store_conditions store_refusals
  store_answers c = up_refusal c _ _ (λ h. then (ap not (closing_live c h)) (λ _. none_left))

  oldest_answers : (c : ℕ) (xs ys : List (Bool × ℕ)) → (c < l.shape.cores → l.book.oldest c < l.book.uncommitted c → SameConditions xs ys)
      → refusal (oldest_conditions in_sequence c w xs) ≡ refusal (oldest_refusals c l ys)
  unfolding committed_conditions found_conditions
  oldest_answers c xs ys own =
      up_refusal c _ _
      (λ h.
      then (none_committed u c h)
      (λ e.
      let some : l.book.oldest c < l.book.uncommitted c = ltb-true _ _ (not-false _ e) in
      then (ap not (oldest_valid u c h some)) (λ _. then (oldest_shares u c h some) (λ _. own h some))))

  pub checkpoint_answers : (c : ℕ) → refusal (checkpoint_conditions in_sequence c w) ≡ refusal (checkpoint_refusals c l)
  unfolding checkpoint_conditions checkpoint_refusals
  checkpoint_answers c = oldest_answers c _ _ (λ h some. then (ap not (images_left_lem u c h some)) (λ _. none_left))

  pub retire_answers : (c : ℕ) → refusal (retire_conditions in_sequence c w) ≡ refusal (retire_refusals c l)
  unfolding retire_conditions retire_refusals
  retire_answers c = oldest_answers c _ _ (λ h some. then (images_left_lem u c h some) (λ _. none_left))

-- ---- blocks counted
and_implied : (p q : Bool) → (q ≡ true → p ≡ true) → (p && q) ≡ q
and_implied true q h = refl
and_implied false true h = h refl
and_implied false false h = refl

-- one more than so many
more_test : (n m : ℕ) → ltb n (m + 1) ≡ leb n m
more_test n m = elim (dec_lt m n) [ yes lt ↦ le-ltb n (m + 1) (omega arith) ∙ sym (lt-leb n m lt) | no ge ↦ lt-ltb n (m + 1) (omega arith) ∙ sym (le-leb n m (omega arith)) ]

limit_pass : {t : Transaction} {e : Entry} → Matches t e → (b n : ℕ) → leb n t.count ≡ (ltb (length e.blocks) (length (taking b e).blocks) && ltb n (length (taking b e).blocks))
limit_pass {t} {e} m b n =
    rw (m.count, length-append e.blocks (b ∷ []), lt-ltb (length e.blocks) (length e.blocks + 1) (omega arith), more_test n (length e.blocks)) refl

-- ---- WRITE
module _ {l : Ledger} {w : World} (u : CardUp l w) (c : ℕ) (in_range_lem : c < l.shape.cores) (b : ℕ) (low : b < l.shape.blocks)
    (opens : (n : Name) → book_holder l.book b l.book.writes ≡ some n → (l.book.entry n).stage ≢ absent) (o : ℕ) (v : Bytes) where
  abbrev t : Name
  t = next_name c l.book

  abbrev k₂ : Book
  k₂ = write_book c b o v l.book

  abbrev e₁ : Entry
  e₁ = (begun c l.book).entry t

  abbrev current : ((l.book.entry t).stage ≡ absent) ⊎ ((l.book.entry t).stage ≡ running)
  current = (u.well_formed.ranks c in_range_lem).current

  -- the writer's blocks before
  few_before : length (l.book.entry t).blocks ≤ 8
  few_before = elim current [ inl e ↦ rw (u.well_formed.unopened t e).0 (omega arith) | inr e ↦ (u.well_formed.limits t (running_present _ e)).few ]

  before_same : length (l.book.entry t).blocks ≡ length e₁.blocks
  before_same = sym (begun_same l.book c current (λ (x : Entry). length x.blocks) (λ _. refl) t)

  -- 36: it takes the block, and has so many
  limit_answer : (limit : ℕ) → (takes_block (rule_for w.card c b) && leb limit (writer w.card c).count)
      ≡ (ltb (length (l.book.entry t).blocks) (length (k₂.entry t).blocks) && ltb limit (length (k₂.entry t).blocks))
  limit_answer limit =
      let m = writer_matches u c in_range_lem in
      let none : ltb (length e₁.blocks) (length e₁.blocks) ≡ false = le-ltb (length e₁.blocks) (length e₁.blocks) (omega arith) in
      elim (rule_met u c in_range_lem b low opens) [
        | met_none _ e r ↦ rw (r, entry_free l.book c current b o v e, before_same) (limit_pass m b limit)
        | met_own _ _ e r ↦ rw (r, entry_own l.book c current b o v e, before_same, none) refl
        | met_running n h _ _ _ e r ↦ rw (r, entry_running l.book c current b o v n h.other e, before_same, none) refl
        | met_closed n h _ e r ↦ rw (r, entry_closed l.book c current b o v n h.other e, before_same) (limit_pass m b limit)
      ]

  -- 25: with at most eight before, more than eight are more than before
  blocks_answer : (takes_block (rule_for w.card c b) && leb 8 (writer w.card c).count) ≡ ltb 8 (length (k₂.entry t).blocks)
  blocks_answer =
      limit_answer 8 ∙ and_implied _ _ (λ e. lt-ltb (length (l.book.entry t).blocks) (length (k₂.entry t).blocks) (omega (arith, few_before, ltb-true 8 (length (k₂.entry t).blocks) e)))

  journal_answer : length (k₂.entry t).blocks ≤ 8
      → journal_full w.card c b
      ≡ ltb l.shape.journal (record_blocks l.book c (l.book.oldest c) (l.book.next c - l.book.oldest c) + 2 + length (k₂.entry t).blocks)
  unfolding journal_full record_size
  journal_answer few =
      let m = writer_after_lem u c in_range_lem b low opens o v few in
      let total = record_blocks l.book c (l.book.oldest c) (l.book.next c - l.book.oldest c) in
      let n = length (k₂.entry t).blocks in
      let e : total + (n + 2) ≡ total + 2 + n = omega arith in
      rw (shape_up u, closed_total u c in_range_lem, m.blocks, e) refl

pub write_answers : {l : Ledger} {w : World} → CardUp l w → (limit c b o : ℕ) (v : Bytes)
    → (b < l.shape.blocks → (n : Name) → book_holder l.book b l.book.writes ≡ some n → (l.book.entry n).stage ≢ absent)
    → refusal (write_conditions limit c b o w) ≡ refusal (write_refusals limit c b o v l)
unfolding write_conditions write_refusals no_block writer_blocks limit_passes journal_passes number_passes
write_answers {l} {w} u limit c b o v opens =
    let k₂ = write_book c b o v l.book in
    let t = next_name c l.book in
    up_refusal u c _ _
    (λ h.
    then (ap (λ (s : Shape). leb s.blocks b) (shape_up u))
    (λ e.
    let low : b < l.shape.blocks = leb-false l.shape.blocks b e in
    then refl
    (λ _.
    then (blocks_answer u c h b low (opens low) o v)
    (λ blocks.
    then (limit_answer u c h b low (opens low) o v limit)
    (λ _.
    then (journal_answer u c h b low (opens low) o v (ltb-false 8 (length (k₂.entry t).blocks) blocks))
    (λ _.
    then (ap₂ (λ (p : Bool) (n : ℕ). not p && ltb max_number n) (live_runs u c h) (u.cores c h).next) (λ _. none_left)))))))
