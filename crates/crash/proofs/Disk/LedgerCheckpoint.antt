-- The ledger after CHECKPOINT or RETIRE, against the one before: one stage and the oldest numbers changed, so records stay, and a journal
-- and a core agree with it under the new tail. After RETIRE, who held a block of the retired transaction holds it no more.
use Rattle.model.proofs.Base.{ℕ, ◌+◌, ◌-◌, ◌≤◌, ◌<◌, arith, ◌≡◌, refl, sym, ap, ◌∙◌, ◌≢◌, true, cond, ◌&&◌, Option, none, some}
use Rattle.model.proofs.Base.{List, [], length, get_or, Bytes}
use Rattle.model.specs.Card.{new_name, same_name, no_holder, is_held, holder_name}
use Rattle.model.specs.Journal.{journal_at}
use Rattle.model.specs.declared.Name.{Name}
use Rattle.model.specs.declared.Tail.{Tail}
use Rattle.model.specs.declared.Core.{Core}
use Rattle.model.specs.Card.{Holder}
use Rattle.model.proofs.Lists.{cases}
use Rattle.model.proofs.Valid.{same_name_refl}
use Rattle.crash.specs.Book.{Stage, committed, retired, Write, Book, book_holder}
use Rattle.crash.specs.Ledger.{Ledger, with_book, record_blocks, record_of}
use Rattle.crash.proofs.Books.Tests.{clash, impossible}
use Rattle.crash.proofs.Books.BookEntries.{same_or_not, same_name_false, next_name, uncommitted_name}
use Rattle.crash.proofs.Books.BookSteps.{Restages, restaged, restages, restages_records, retired_none, retired_other}
use Rattle.crash.proofs.Disk.Relation.{contents, JournalStands, CoreUp, holder_as}
use Rattle.crash.proofs.Commands.CardFrames.{record_same, contents_same}

-- ---- the ledger with one stage and the oldest numbers changed
module _ (l : Ledger) (t : Name) (g : Stage) (o : ℕ → ℕ) where
  abbrev pub advanced : Ledger
  advanced = with_book l (restaged t g o l.book.uncommitted l.book.next l.book)

  pub one_changed : Restages l.book advanced.book t g
  one_changed = restages t g o l.book.uncommitted l.book.next l.book

  pub record_stays : (v : Name) → record_of advanced v ≡ record_of l v
  record_stays v = record_same l advanced v (one_changed.blocks v) (one_changed.names v) refl refl

  module _ (a : ℕ) (not_closing : uncommitted_name a l.book ≢ t) (not_current : next_name a l.book ≢ t) where
    pub closing_stays : advanced.book.entry (uncommitted_name a l.book) ≡ l.book.entry (uncommitted_name a l.book)
    closing_stays = one_changed.other (uncommitted_name a l.book) not_closing

    current_stays : advanced.book.entry (next_name a l.book) ≡ l.book.entry (next_name a l.book)
    current_stays = one_changed.other (next_name a l.book) not_current

    pub contents_kept : o a ≡ l.book.oldest a → contents advanced a ≡ contents l a
    contents_kept e =
        contents_same l advanced a e refl (λ i h. record_stays (new_name a i))
        (rw (closing_stays, record_stays (uncommitted_name a l.book)) refl)

    pub journal_advanced : (d d₂ : Bytes) (tail tail₂ : Tail) → ((q : ℕ) → journal_at l.shape d₂ a q ≡ journal_at l.shape d a q)
        → tail₂.number ≡ o a → tail₂.position < l.shape.journal
        → ((q : ℕ) → q < length (contents advanced a) → journal_at l.shape d a (tail₂.position + q) ≡ get_or (contents advanced a) q [])
        → record_blocks l.book a (o a) (l.book.next a - o a) ≤ record_blocks l.book a (l.book.oldest a) (l.book.next a - l.book.oldest a)
        → JournalStands l d a tail → JournalStands advanced d₂ a tail₂
    journal_advanced d d₂ tail tail₂ at n p s fewer j =
        let total = restages_records one_changed a (o a) (l.book.next a - o a) in
        record {
          number = n;
          position = p;
          stands = λ q h. at (tail₂.position + q) ∙ s q h;
          clear = λ i q h. rw (at q) (j.clear i q h);
          room = omega (arith, j.room);
          reserved = rw (current_stays, total) (λ h. omega (arith, j.reserved h));
        }

    pub core_advanced : (m : Bytes) (k : Core) (used homed : ℕ) → used ≡ record_blocks l.book a (o a) (l.book.uncommitted a - o a)
        → (o a < l.book.uncommitted a → (advanced.book.entry (new_name a (o a))).stage ≡ committed homed) → (o a ≡ l.book.uncommitted a → homed ≡ 0)
        → CoreUp l m a k
        → CoreUp advanced m a (record { next = k.next; used = used; stored = k.stored; homed = homed; running = k.running; closed = k.closed })
    core_advanced m k used homed n h z y =
        record {
          next = y.next;
          one = y.one;
          used = n ∙ sym (restages_records one_changed a (o a) (l.book.uncommitted a - o a));
          runs = rw current_stays y.runs;
          idle = rw current_stays y.idle;
          closing = rw closing_stays y.closing;
          stored = rw closing_stays y.stored;
          copies = rw closing_stays y.copies;
          none_closing = y.none_closing;
          homed = h;
          none_homed = z;
        }

    -- a core that keeps its oldest number
    pub journal_kept : (d d₂ : Bytes) (tail : Tail) → ((q : ℕ) → journal_at l.shape d₂ a q ≡ journal_at l.shape d a q) → o a ≡ l.book.oldest a
        → JournalStands l d a tail → JournalStands advanced d₂ a tail
    journal_kept d d₂ tail at e j =
        journal_advanced d d₂ tail tail at (j.number ∙ sym e) j.position (rw (contents_kept e) j.stands) (rw e (omega arith)) j

-- ---- who held a block holds it no more
abbrev pub released_from : Name → Holder → Holder
released_from t h = cond (is_held h && same_name (holder_name h) t) no_holder h

pub released_holder : {k k₂ : Book} {t : Name} → Restages k k₂ t retired → (b : ℕ) (ws : List Write)
    → released_from t (holder_as (book_holder k b ws)) ≡ holder_as (book_holder k₂ b ws)
released_holder {k} {k₂} {t} r b ws = go (book_holder k b ws) refl
  where
    go : (h : Option Name) → book_holder k b ws ≡ h → released_from t (holder_as h) ≡ holder_as (book_holder k₂ b ws)
    go none e = rw (retired_other r b ws (λ q. impossible cc), e)
    go (some v) e =
        same_or_not v t
        (λ q. rw (q, same_name_refl t, retired_none r b ws (e ∙ ap some q)))
        (λ ne. rw (same_name_false v t ne, retired_other r b ws (λ q. ne (cc)), e))

pub still_held : (t : Name) (h : Holder) → is_held (released_from t h) ≡ true → is_held h ≡ true
still_held t h e = cases (is_held h && same_name (holder_name h) t) (λ z. clash (rw z at e) refl) (λ z. rw z at e)
