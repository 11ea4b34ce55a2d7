-- CLOSE and WRITE leave committed transactions alone.
use Prim.Native.Nat.{ℕ, ◌+◌, ◌-◌, ◌≤◌, ◌<◌}
use native.Mathlib.Omega.{arith}
use mathlib.Core.Path.{◌≡◌, refl, sym, ap, ap₂, ◌∙◌}
use mathlib.Core.Logic.{◌⊎◌, inl, inr, ◌≢◌}
use mathlib.Core.Bool.{true, false}
use mathlib.Core.List.{List, ◌++◌}
use mathlib.Core.Option.{Option, none, some}
use lib.ListN.{take}
use Rattle.model.specs.Bytes.{Bytes}
use Rattle.model.specs.Card.{new_name, same_name}
use Rattle.model.specs.declared.Name.{Name}
use Rattle.model.proofs.Lists.{cases, flat_map_below}
use Rattle.crash.specs.Book.{Stage, absent, running, closed, is_closed, is_committed, is_retired, stage_count, Entry, Book, staged, own, running_holder, closed_holder, meets, close_book, book_holder, write_book}
use Rattle.crash.specs.Ledger.{Ledger, with_book, close_ledger, record_of}
use Rattle.crash.proofs.Books.Tests.{clash, impossible}
use Rattle.crash.proofs.Books.BookEntries.{by_stage, same_or_not, change_at, change_other, next_name, uncommitted_name}
use Rattle.crash.proofs.Books.BookSteps.{close_stamp_other, close_images_other}
use Rattle.crash.proofs.Books.BookSteps.{write_numbers, write_stage, write_other, write_running}
use Rattle.model.specs.Tape.{WRITE, lamp_task}
use Rattle.crash.specs.Service.{noted}
use Rattle.crash.proofs.Books.BookOrder.{noted_begun}
use Rattle.crash.proofs.Books.Largest.{stage_of}
use Rattle.crash.proofs.Blocks.Invariant.{homed_by, committed_closed}
use Rattle.crash.proofs.Disk.Relation.{WellFormed, contents}
use Rattle.crash.proofs.Disk.LedgerStages.{stored_unretired}
use Rattle.crash.proofs.Commands.CardFrames.{record_same}
use Rattle.drive.proofs.Behind.Frame.{Idle}

-- `contents_same` asking for the records from the oldest on alone: a lower number may have no transaction
contents_same_from : (l l₂ : Ledger) (c : ℕ) → l₂.book.oldest c ≡ l.book.oldest c → l₂.book.uncommitted c ≡ l.book.uncommitted c
    → ((i : ℕ) → l.book.oldest c ≤ i → i < l.book.uncommitted c → record_of l₂ (new_name c i) ≡ record_of l (new_name c i))
    → take (stage_count (stage_of l₂.book (uncommitted_name c l.book))) (record_of l₂ (uncommitted_name c l.book))
    ≡ take (stage_count (stage_of l.book (uncommitted_name c l.book))) (record_of l (uncommitted_name c l.book))
    → contents l₂ c ≡ contents l c
unfolding contents
contents_same_from l l₂ c o u f g =
    rw (o, u, g)
    (ap (λ (x : List Bytes). x ++ take (stage_count (stage_of l.book (uncommitted_name c l.book))) (record_of l (uncommitted_name c l.book)))
    (flat_map_below (λ (i : ℕ). record_of l₂ (new_name c (l.book.oldest c + i))) (λ (i : ℕ). record_of l (new_name c (l.book.oldest c + i)))
    (l.book.uncommitted c - l.book.oldest c) (λ i h. f (l.book.oldest c + i) (omega arith) (omega arith))))

-- stages of transactions that are not committed
abbrev Uncommitted : Stage → Type 0
Uncommitted g = (is_committed g ≡ false) × (is_retired g ≡ false) × (stage_count g ≡ 0) × ((b : ℕ) (bs : List ℕ) → homed_by b bs g ≡ false)

open_stage : (g : Stage) → is_closed g ≡ false → Uncommitted g
open_stage =
    by_stage (λ g. is_closed g ≡ false → Uncommitted g) (λ h. (refl, refl, refl, λ b bs. refl)) (λ h. (refl, refl, refl, λ b bs. refl)) (λ n h. clash refl h) (λ n h. clash refl h) (λ h. clash refl h)

closed_zero : (g : Stage) → g ≡ closed 0 → Uncommitted g
closed_zero g e = rw e (refl, refl, refl, λ b bs. refl)

-- ---- a ledger whose closed transactions stay
module _ (l l₂ : Ledger) (f : WellFormed l) (shape : l₂.shape ≡ l.shape) (begun : l₂.book.begun ≡ l.book.begun)
    (oldest : (c : ℕ) → l₂.book.oldest c ≡ l.book.oldest c) (uncommitted : (c : ℕ) → l₂.book.uncommitted c ≡ l.book.uncommitted c)
    (entry : (t : Name) → is_closed (stage_of l.book t) ≡ true → l₂.book.entry t ≡ l.book.entry t)
    -- the others hold no more than a close
    (others : (t : Name) → is_closed (stage_of l.book t) ≡ false
    → Uncommitted (stage_of l₂.book t))
    (stamp : (t : Name) → is_closed (stage_of l.book t) ≡ true → l₂.stamp t ≡ l.stamp t) (images : (t : Name) → is_closed (stage_of l.book t) ≡ true → l₂.images t ≡ l.images t) where
  by_closed : {A : Type 0} (t : Name) → (is_closed (stage_of l.book t) ≡ true → A) → (is_closed (stage_of l.book t) ≡ false → A) → A
  by_closed t a b = cases (is_closed (stage_of l.book t)) a b

  was_open : (t : Name) → is_closed (stage_of l.book t) ≡ false → Uncommitted (stage_of l.book t)
  was_open t h = open_stage (stage_of l.book t) h

  record_stays : (t : Name) → is_closed (stage_of l.book t) ≡ true → record_of l₂ t ≡ record_of l t
  record_stays t h = record_same l l₂ t (ap (λ (e : Entry). e.blocks) (entry t h)) (ap (λ (e : Entry). e.names) (entry t h)) (images t h) (stamp t h)

  counts_same : (t : Name) → stage_count (stage_of l₂.book t) ≡ stage_count (stage_of l.book t)
  counts_same t = by_closed t (λ h. ap (λ (e : Entry). stage_count e.stage) (entry t h)) (λ h. (others t h).2 ∙ sym (was_open t h).2)

  holds : (c : ℕ) → c < l.shape.cores → contents l₂ c ≡ contents l c
  holds c in_range_lem =
      let k = l.book in
      contents_same_from l l₂ c (oldest c) (uncommitted c)
      (λ i a b. record_stays (new_name c i) (stored_unretired (f.ranks c in_range_lem) i a b).is_closed_lem)
      (by_closed (uncommitted_name c k)
      (λ h. ap₂ take (counts_same (uncommitted_name c k)) (record_stays (uncommitted_name c k) h))
      (λ h. ap (λ (n : ℕ). take n (record_of l₂ (uncommitted_name c k))) (others (uncommitted_name c k) h).2 ∙ sym (ap (λ (n : ℕ). take n (record_of l (uncommitted_name c k))) (was_open (uncommitted_name c k) h).2)))

  pub idle : Idle l l₂
  idle =
      record {
        begun = begun;
        oldest = oldest;
        uncommitted = uncommitted;
        commits = λ t. by_closed t (λ h. ap (λ (e : Entry). is_committed e.stage) (entry t h)) (λ h. (others t h).0 ∙ sym (was_open t h).0);
        entry = λ t h. entry t (committed_closed (stage_of l.book t) h);
        records = λ t h. record_stays t (committed_closed (stage_of l.book t) h);
        retires = λ t. by_closed t (λ h. ap (λ (e : Entry). is_retired e.stage) (entry t h)) (λ h. (others t h).1 ∙ sym (was_open t h).1);
        homes = λ b t h. by_closed t (λ c. sym (ap (λ (e : Entry). homed_by b e.blocks e.stage) (entry t c)) ∙ h) (λ c. clash h ((others t c).3 b (l₂.book.entry t).blocks));
        holds = holds;
        counts = λ c h. ap (λ (n : ℕ). stage_count (stage_of l₂.book (new_name c n))) (uncommitted c) ∙ counts_same (uncommitted_name c l.book);
      }

-- ---- CLOSE
module _ (l : Ledger) (f : WellFormed l) (c : ℕ) (runs : stage_of l.book (next_name c l.book) ≡ running) where
  not_next : (t : Name) → is_closed (stage_of l.book t) ≡ true → t ≢ next_name c l.book
  not_next t h e = clash h (ap (λ (n : Name). is_closed (stage_of l.book n)) e ∙ ap is_closed runs)

  pub close_idle : Idle l (close_ledger c l)
  unfolding close_ledger close_book
  close_idle =
      idle l (close_ledger c l) f refl refl (λ a. refl) (λ a. refl)
      (λ t h. change_other (next_name c l.book) (staged (closed 0)) l.book.entry t (not_next t h))
      (λ t h. same_or_not t (next_name c l.book)
      (λ e. closed_zero (stage_of (close_book c l.book) t) (ap (λ (n : Name). stage_of (close_book c l.book) n) e ∙ ap (λ (x : Entry). x.stage) (change_at (next_name c l.book) (staged (closed 0)) l.book.entry)))
      (λ ne. open_stage (stage_of (close_book c l.book) t) (ap (λ (x : Entry). is_closed x.stage) (change_other (next_name c l.book) (staged (closed 0)) l.book.entry t ne) ∙ h)))
      (λ t h. close_stamp_other l c t (not_next t h))
      (λ t h. close_images_other l c t (not_next t h))

-- ---- WRITE
running_open : (k : Book) (t u : Name) (h : Option Name) → meets k t h ≡ running_holder u → is_closed (stage_of k u) ≡ false
unfolding meets
running_open k t u none e = impossible cc
running_open k t u (some x) e =
    cases (same_name x t)
    (λ a. let q : own ≡ running_holder u = rw a at e in impossible cc)
    (λ a. cases (is_closed (stage_of k x))
    (λ b. let q : closed_holder x ≡ running_holder u = rw (a, b) at e in impossible cc)
    (λ b. let q : running_holder x ≡ running_holder u = rw (a, b) at e in let s : x ≡ u = cc in rw (← s) b))

module _ (l : Ledger) (f : WellFormed l) (c b o : ℕ) (v : Bytes)
    (current : (stage_of l.book (next_name c l.book) ≡ absent) ⊎ (stage_of l.book (next_name c l.book) ≡ running)) where
  next_open : is_closed (stage_of l.book (next_name c l.book)) ≡ false
  next_open = elim current [ inl e ↦ ap is_closed e | inr e ↦ ap is_closed e ]

  pub write_idle : Idle l (with_book l (write_book c b o v l.book))
  write_idle =
      let k = l.book in
      let n = write_numbers k c current b o v in
      idle l (with_book l (write_book c b o v k)) f refl (unfold noted in noted_begun (WRITE lamp_task c b o v) k) (λ a. ap (λ (x : ℕ → ℕ). x a) n.0) (λ a. ap (λ (x : ℕ → ℕ). x a) n.1)
      (λ t h. write_other k c current b o v t (λ e. clash h (ap (λ (n : Name). is_closed (stage_of k n)) e ∙ next_open)) (λ e. clash h (running_open k (next_name c k) t (book_holder k b k.writes) e)))
      (λ t h. open_stage (stage_of (write_book c b o v k) t)
      (same_or_not t (next_name c k)
      (λ e. ap (λ (n : Name). is_closed (stage_of (write_book c b o v k) n)) e ∙ ap is_closed (write_running k c current b o v))
      (λ ne. ap is_closed (write_stage k c current b o v t ne) ∙ h)))
      (λ t h. refl) (λ t h. refl)
