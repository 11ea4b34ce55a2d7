-- Two books that differ in the numbers of the transactions alone: the service book numbers from 1 since the last cut, the
-- ledger goes on with the card's numbers. Every command keeps such a pair one, and a cut keeps the same writes of both:
-- whatever a book does with names, it only compares them, and a shift of each core's numbers changes no comparison.
use Prim.Native.Nat.{ℕ, suc, ◌+◌, ◌-◌, ◌<◌}
use native.Mathlib.Nat.{suc-add}
use native.Mathlib.Omega.{arith}
use mathlib.Core.Path.{◌≡◌, refl, sym, ◌∙◌, ap}
use mathlib.Core.List.{List, [], ◌∷◌, ◌++◌, map, map-map, map-append}
use mathlib.Core.Option.{Option, none, some}
use mathlib.Core.Bool.{Bool, true, false, cond}
use lib.ListN.{length}
use lib.Dec.{eqb, leb, ltb}
use borrow.Author.Tests.{eqb-true, eqb-false, eq-eqb, ne_eqb, lt-ltb, le-ltb, ltb-true, ltb-false}
use Rattle.model.specs.Lists.{any, select}
use Rattle.model.specs.Bytes.{Bytes}
use Rattle.model.specs.Card.{new_name, same_name}
use Rattle.model.specs.Valid.{Order, unordered, in_sequence, required}
use Rattle.model.proofs.Lists.{cases, all_map, any_map}
use Rattle.model.proofs.Select.{select_map}
use Rattle.model.proofs.Shrink.{shrink_map}
use Rattle.crash.specs.Book.{running, closed, committed, retired, is_running, is_closed, is_committed, is_retired, stage_count, Entry, Write, Beginning, Book, empty_book, change, raise, staged, taking, naming, begin, book_holder, Meeting, no_holder, own, running_holder, closed_holder, meets, ruled, holder_after, note, write_book, close_book, store_book, checkpoint_book, retire_book, required_in, committed_in, required_within, kept, kept_writes, image, has_running}
use Rattle.crash.specs.Service.{noted}
use Rattle.crash.proofs.Books.Tests.{cond_apply}
use Rattle.crash.proofs.Books.BookEntries.{next_name, oldest_name, uncommitted_name}
use Rattle.model.specs.Tape.{CHECKPOINT, CLOSE, CUT, Command, FORMAT, RECOVER, RETIRE, STORE, WRITE}
use Rattle.model.specs.declared.Name.{Name}

-- ---- names, entries and writes renamed
unfoldable pub renamed : (ℕ → ℕ) → Name → Name
renamed shift t = new_name t.core (t.number + shift t.core)

abbrev renamed_entry : (ℕ → ℕ) → Entry → Entry
renamed_entry shift e = record { blocks = e.blocks; names = map (renamed shift) e.names; stage = e.stage }

abbrev renamed_write : (ℕ → ℕ) → Write → Write
renamed_write shift w = record { writer = renamed shift w.writer; holder = renamed shift w.holder; block = w.block; offset = w.offset; bytes = w.bytes }

abbrev renamed_holder : (ℕ → ℕ) → Option Name → Option Name
renamed_holder shift none = none
renamed_holder shift (some t) = some (renamed shift t)

abbrev renamed_meeting : (ℕ → ℕ) → Meeting → Meeting
renamed_meeting shift no_holder = no_holder
renamed_meeting shift own = own
renamed_meeting shift (running_holder u) = running_holder (renamed shift u)
renamed_meeting shift (closed_holder u) = closed_holder (renamed shift u)

-- the same rule, each core's first number shifted
pub record BegunRenamed (shift : ℕ → ℕ) (b b' : Beginning) : Type 0 where
  pub order : b'.order ≡ b.order
  pub first : (c : ℕ) → b'.first c ≡ b.first c + shift c

-- the second book is the first with each core's numbers shifted; what it says of names that are none of the first's
-- does not matter
pub record Renamed (shift : ℕ → ℕ) (k k' : Book) : Type 0 where
  pub begun : BegunRenamed shift k.begun k'.begun
  pub opened : k'.opened ≡ map (renamed shift) k.opened
  pub entry : (t : Name) → k'.entry (renamed shift t) ≡ renamed_entry shift (k.entry t)
  pub writes : k'.writes ≡ map (renamed_write shift) k.writes
  pub oldest : (c : ℕ) → k'.oldest c ≡ k.oldest c + shift c
  pub uncommitted : (c : ℕ) → k'.uncommitted c ≡ k.uncommitted c + shift c
  pub next : (c : ℕ) → k'.next c ≡ k.next c + shift c

eqb_shift : (a b n : ℕ) → eqb (a + n) (b + n) ≡ eqb a b
eqb_shift a b n =
    cases (eqb a b) (λ e. rw (e, eqb-true a b e) (eq-eqb (b + n) (b + n) refl))
    (λ e. rw e (ne_eqb (a + n) (b + n) (λ q. eqb-false a b e (omega arith))))

module _ (shift : ℕ → ℕ) where
  pub same_renamed : (t u : Name) → same_name (renamed shift t) (renamed shift u) ≡ same_name t u
  unfolding same_name renamed
  same_renamed t u =
      cases (eqb t.core u.core) (λ e. rw (e, eqb-true t.core u.core e) (eqb_shift t.number u.number (shift u.core)))
      (λ e. rw e refl)

  pub renamed_number : (c n n' : ℕ) → n' ≡ n + shift c → new_name c n' ≡ renamed shift (new_name c n)
  unfolding renamed
  renamed_number c n n' e = rw e refl

  any_renamed : (t : Name) (us : List Name) → any (same_name (renamed shift t)) (map (renamed shift) us) ≡ any (same_name t) us
  any_renamed t us = any_map (renamed shift) (same_name t) (same_name (renamed shift t)) (same_renamed t) us

  -- ---- what the commands are made of
  change_renamed : (t : Name) (g g' : Entry → Entry) → ((e : Entry) → g' (renamed_entry shift e) ≡ renamed_entry shift (g e))
      → (entry entry' : Name → Entry) → ((u : Name) → entry' (renamed shift u) ≡ renamed_entry shift (entry u))
      → (u : Name) → change (renamed shift t) g' entry' (renamed shift u) ≡ renamed_entry shift (change t g entry u)
  unfolding change
  change_renamed t g g' h entry entry' e u = rw (e u, same_renamed u t, h (entry u)) (cond_apply (renamed_entry shift) (same_name u t) (g (entry u)) (entry u))

  raise_renamed : (c : ℕ) (n n' : ℕ → ℕ) → ((i : ℕ) → n' i ≡ n i + shift i) → (i : ℕ) → raise c n' i ≡ raise c n i + shift i
  unfolding raise
  raise_renamed c n n' h i = rw (h i, ← suc-add (n i) (shift i)) (cond_apply (λ (x : ℕ). x + shift i) (eqb i c) (suc (n i)) (n i))

  -- raised where the count is full
  counted_renamed : (last : Bool) (c : ℕ) (n n' : ℕ → ℕ) → ((i : ℕ) → n' i ≡ n i + shift i) → (i : ℕ) → cond last (raise c n') n' i ≡ cond last (raise c n) n i + shift i
  counted_renamed true c n n' h i = raise_renamed c n n' h i
  counted_renamed false c n n' h i = h i

  naming_renamed : (t : Name) (e : Entry) → naming (renamed shift t) (renamed_entry shift e) ≡ renamed_entry shift (naming t e)
  naming_renamed t e =
      rw (any_renamed t e.names)
      (ap (λ (ns : List Name). record { blocks = e.blocks; names = ns; stage = e.stage })
      (rw (← map-append (renamed shift) e.names (t ∷ [])) (cond_apply (map (renamed shift)) (any (same_name t) e.names) e.names (e.names ++ (t ∷ [])))))

  ruled_renamed : (m : Meeting) (t : Name) (b : ℕ) (entry entry' : Name → Entry) → ((u : Name) → entry' (renamed shift u) ≡ renamed_entry shift (entry u))
      → (u : Name) → ruled (renamed_meeting shift m) (renamed shift t) b entry' (renamed shift u) ≡ renamed_entry shift (ruled m t b entry u)
  unfolding ruled
  ruled_renamed no_holder t b entry entry' e u = change_renamed t (taking b) (taking b) (λ x. refl) entry entry' e u
  ruled_renamed own t b entry entry' e u = e u
  ruled_renamed (running_holder w) t b entry entry' e u =
      change_renamed w (naming t) (naming (renamed shift t)) (naming_renamed t) (change t (naming w) entry) (change (renamed shift t) (naming (renamed shift w)) entry')
      (change_renamed t (naming w) (naming (renamed shift w)) (naming_renamed w) entry entry' e) u
  ruled_renamed (closed_holder w) t b entry entry' e u =
      change_renamed t (λ x. taking b (naming w x)) (λ x. taking b (naming (renamed shift w) x)) (λ x. ap (taking b) (naming_renamed w x)) entry entry' e u

  holder_after_renamed : (m : Meeting) (t : Name) → holder_after (renamed_meeting shift m) (renamed shift t) ≡ renamed shift (holder_after m t)
  unfolding holder_after
  holder_after_renamed no_holder t = refl
  holder_after_renamed own t = refl
  holder_after_renamed (running_holder u) t = refl
  holder_after_renamed (closed_holder u) t = refl

-- ---- the commands
pub empty_renamed : (o : Order) (shift n n' : ℕ → ℕ) → ((c : ℕ) → n' c ≡ n c + shift c) → Renamed shift (empty_book o n) (empty_book o n')
unfolding empty_book
empty_renamed o shift n n' h = record { begun = record { order = refl; first = h }; opened = refl; entry = λ t. refl; writes = refl; oldest = h; uncommitted = h; next = h }

cond_renamed : {shift : ℕ → ℕ} {k k' j j' : Book} (t : Bool) → Renamed shift k k' → Renamed shift j j' → Renamed shift (cond t k j) (cond t k' j')
cond_renamed true r s = r
cond_renamed false r s = s

module _ {shift : ℕ → ℕ} {k k' : Book} (r : Renamed shift k k') where
  begin_renamed : (t : Name) → Renamed shift (begin t k) (begin (renamed shift t) k')
  unfolding begin
  begin_renamed t =
      record {
        begun = r.begun;
        opened = ap (λ (ts : List Name). renamed shift t ∷ ts) r.opened;
        entry = change_renamed shift t (staged running) (staged running) (λ e. refl) k.entry k'.entry r.entry;
        writes = r.writes;
        oldest = r.oldest;
        uncommitted = r.uncommitted;
        next = r.next;
      }

  holder_in_renamed : (b : ℕ) (ws : List Write) → book_holder k' b (map (renamed_write shift) ws) ≡ renamed_holder shift (book_holder k b ws)
  unfolding book_holder
  holder_in_renamed b [] = refl
  holder_in_renamed b (w ∷ ws) =
      rw (holder_in_renamed b ws, r.entry w.holder, cond_apply (renamed_holder shift) (is_retired (k.entry w.holder).stage) none (some w.holder))
      (cond_apply (renamed_holder shift) (eqb b w.block) (cond (is_retired (k.entry w.holder).stage) none (some w.holder)) (book_holder k b ws))

  meets_renamed : (t : Name) (o : Option Name) → meets k' (renamed shift t) (renamed_holder shift o) ≡ renamed_meeting shift (meets k t o)
  unfolding meets
  meets_renamed t none = refl
  meets_renamed t (some u) =
      rw (same_renamed shift u t, r.entry u, cond_apply (renamed_meeting shift) (is_closed (k.entry u).stage) (closed_holder u) (running_holder u))
      (cond_apply (renamed_meeting shift) (same_name u t) own (cond (is_closed (k.entry u).stage) (closed_holder u) (running_holder u)))

  note_renamed : (t : Name) (b o : ℕ) (v : Bytes) → Renamed shift (note t b o v k) (note (renamed shift t) b o v k')
  unfolding note
  note_renamed t b o v =
      let m = meets k t (book_holder k b k.writes) in
      let h : book_holder k' b k'.writes ≡ renamed_holder shift (book_holder k b k.writes) = ap (book_holder k' b) r.writes ∙ holder_in_renamed b k.writes in
      let e : meets k' (renamed shift t) (book_holder k' b k'.writes) ≡ renamed_meeting shift m = ap (meets k' (renamed shift t)) h ∙ meets_renamed t (book_holder k b k.writes) in
      record {
        begun = r.begun;
        opened = r.opened;
        entry = rw e (ruled_renamed shift m t b k.entry k'.entry r.entry);
        writes = rw (e, holder_after_renamed shift m t, r.writes) refl;
        oldest = r.oldest;
        uncommitted = r.uncommitted;
        next = r.next;
      }

module _ {shift : ℕ → ℕ} {k k' : Book} (r : Renamed shift k k') where
  write_renamed : (c b o : ℕ) (v : Bytes) → Renamed shift (write_book c b o v k) (write_book c b o v k')
  unfolding write_book
  write_renamed c b o v =
      let t = next_name c k in
      rw (renamed_number shift c (k.next c) (k'.next c) (r.next c), r.entry t)
      (note_renamed (cond_renamed (is_running (k.entry t).stage) r (begin_renamed r t)) t b o v)

  pub close_renamed : (c : ℕ) → Renamed shift (close_book c k) (close_book c k')
  unfolding close_book
  close_renamed c =
      record {
        begun = r.begun;
        opened = r.opened;
        entry =
            rw (renamed_number shift c (k.next c) (k'.next c) (r.next c))
            (change_renamed shift (next_name c k) (staged (closed 0)) (staged (closed 0)) (λ e. refl) k.entry k'.entry r.entry);
        writes = r.writes;
        oldest = r.oldest;
        uncommitted = r.uncommitted;
        next = raise_renamed shift c k.next k'.next r.next;
      }

  store_renamed : (c : ℕ) → Renamed shift (store_book c k) (store_book c k')
  unfolding store_book
  store_renamed c =
      let t = uncommitted_name c k in
      let e = k.entry t in
      let n = suc (stage_count e.stage) in
      let last = leb (length e.blocks + 2) n in
      let g = staged (cond last (committed 0) (closed n)) in
      let p : new_name c (k'.uncommitted c) ≡ renamed shift t = renamed_number shift c (k.uncommitted c) (k'.uncommitted c) (r.uncommitted c) in
      record {
        begun = r.begun;
        opened = r.opened;
        entry = rw (p, r.entry t) (change_renamed shift t g g (λ x. refl) k.entry k'.entry r.entry);
        writes = r.writes;
        oldest = r.oldest;
        uncommitted = rw (p, r.entry t) (counted_renamed shift last c k.uncommitted k'.uncommitted r.uncommitted);
        next = r.next;
      }

  checkpoint_renamed : (c : ℕ) → Renamed shift (checkpoint_book c k) (checkpoint_book c k')
  unfolding checkpoint_book
  checkpoint_renamed c =
      let t = oldest_name c k in
      let g = staged (committed (suc (stage_count (k.entry t).stage))) in
      let p : new_name c (k'.oldest c) ≡ renamed shift t = renamed_number shift c (k.oldest c) (k'.oldest c) (r.oldest c) in
      record {
        begun = r.begun;
        opened = r.opened;
        entry = rw (p, r.entry t) (change_renamed shift t g g (λ x. refl) k.entry k'.entry r.entry);
        writes = r.writes;
        oldest = r.oldest;
        uncommitted = r.uncommitted;
        next = r.next;
      }

  retire_renamed : (c : ℕ) → Renamed shift (retire_book c k) (retire_book c k')
  unfolding retire_book
  retire_renamed c =
      let t = oldest_name c k in
      let g = staged retired in
      let p : new_name c (k'.oldest c) ≡ renamed shift t = renamed_number shift c (k.oldest c) (k'.oldest c) (r.oldest c) in
      record {
        begun = r.begun;
        opened = r.opened;
        entry = rw p (change_renamed shift t g g (λ x. refl) k.entry k'.entry r.entry);
        writes = r.writes;
        oldest = counted_renamed shift true c k.oldest k'.oldest r.oldest;
        uncommitted = r.uncommitted;
        next = r.next;
      }

  -- both books have such a transaction, or neither
  pub running_renamed : (c : ℕ) → has_running k' c ≡ has_running k c
  running_renamed c = rw (renamed_number shift c (k.next c) (k'.next c) (r.next c), r.entry (new_name c (k.next c))) refl

  less_renamed : (n x y x' y' : ℕ) → x' ≡ x + n → y' ≡ y + n → ltb x' y' ≡ ltb x y
  less_renamed n x y x' y' p q =
      cases (ltb x y)
      (λ h. rw h (lt-ltb x' y' (omega (arith, ltb-true x y h))))
      (λ h. rw h (le-ltb x' y' (omega (arith, ltb-false x y h))))

  guard_renamed : {p p' : Bool} {x x' : Book} → p' ≡ p → Renamed shift x x' → Renamed shift (cond p x k) (cond p' x' k')
  guard_renamed {p} e h = rw e (cond_renamed p h r)

  pub noted_renamed : (n : Command) → Renamed shift (noted n k) (noted n k')
  unfolding noted
  noted_renamed (FORMAT c b j) = r
  noted_renamed (WRITE task c b o v) = write_renamed c b o v
  noted_renamed (CLOSE c) = guard_renamed (running_renamed c) (close_renamed c)
  noted_renamed (STORE c) = guard_renamed (less_renamed (shift c) _ _ _ _ (r.uncommitted c) (r.next c)) (store_renamed c)
  noted_renamed (CHECKPOINT c) = guard_renamed (less_renamed (shift c) _ _ _ _ (r.oldest c) (r.uncommitted c)) (checkpoint_renamed c)
  noted_renamed CUT = r
  noted_renamed RECOVER = r
  noted_renamed (RETIRE c) = guard_renamed (less_renamed (shift c) _ _ _ _ (r.oldest c) (r.uncommitted c)) (retire_renamed c)

-- ---- what a cut keeps
-- writes that are the same but for the names of transactions
abbrev nameless : Write → Write
nameless w = record { writer = new_name 0 0; holder = new_name 0 0; block = w.block; offset = w.offset; bytes = w.bytes }

abbrev pub SameWrites : List Write → List Write → Type 0
SameWrites s s' = map nameless s ≡ map nameless s'

nameless_image : (base : ℕ → Bytes) (s : List Write) (b : ℕ) → image base (map nameless s) b ≡ image base s b
unfolding image
nameless_image base [] b = refl
nameless_image base (w ∷ ws) b = rw (nameless_image base ws b) refl

pub same_image : (base : ℕ → Bytes) (s s' : List Write) → SameWrites s s' → (b : ℕ) → image base s b ≡ image base s' b
same_image base s s' p b = sym (nameless_image base s b) ∙ ap (λ (ws : List Write). image base ws b) p ∙ nameless_image base s' b

module _ {shift : ℕ → ℕ} {k k' : Book} (r : Renamed shift k k') where
  committed_renamed : committed_in k' ≡ map (renamed shift) (committed_in k)
  unfolding committed_in
  committed_renamed =
      rw r.opened
      (select_map (renamed shift) (λ t. is_committed (k.entry t).stage) (λ t. is_committed (k'.entry t).stage) (λ t. rw (r.entry t) refl) k.opened)

  -- the one before, where there is one, is renamed with it
  before_renamed : (o : Order) (t : Name) (ns : List Name) → k.begun.first t.core < t.number
      → required o (renamed shift t) (map (renamed shift) ns) ≡ map (renamed shift) (required o t ns)
  unfolding required renamed
  before_renamed unordered t ns h = refl
  before_renamed in_sequence t ns h =
      let e : t.number + shift t.core - 1 ≡ t.number - 1 + shift t.core = omega arith in
      ap (λ (n : ℕ). new_name t.core n ∷ map (renamed shift) ns) e

  required_renamed : (t : Name) → required_in k' (renamed shift t) ≡ map (renamed shift) (required_in k t)
  required_renamed t = by_test (ltb (k.begun.first t.core) t.number) refl
    where
      same : ltb (k'.begun.first (renamed shift t).core) (renamed shift t).number ≡ ltb (k.begun.first t.core) t.number
      same = unfold renamed in less_renamed r (shift t.core) _ _ _ _ (r.begun.first t.core) refl

      by_test : (b : Bool) → ltb (k.begun.first t.core) t.number ≡ b → required_in k' (renamed shift t) ≡ map (renamed shift) (required_in k t)
      by_test true e =
          unfold required_in in rw (same, e, r.entry t, r.begun.order) (before_renamed k.begun.order t (k.entry t).names (ltb-true _ _ e))
      by_test false e = unfold required_in in rw (same, e, r.entry t) refl

  required_within_renamed : (ts : List Name) (t : Name) → required_within k' (map (renamed shift) ts) (renamed shift t) ≡ required_within k ts t
  unfolding required_within
  required_within_renamed ts t =
      rw (required_renamed t)
      (all_map (renamed shift) (λ n. any (same_name n) ts) (λ n. any (same_name n) (map (renamed shift) ts)) (λ n. any_renamed shift n ts) (required_in k t))

  kept_renamed : kept k' ≡ map (renamed shift) (kept k)
  unfolding kept
  kept_renamed = rw committed_renamed (shrink_map (renamed shift) (required_within k) (required_within k') required_within_renamed (committed_in k))

  -- A cut keeps the same transactions,
  kept_same : (t : Name) → any (same_name (renamed shift t)) (kept k') ≡ any (same_name t) (kept k)
  kept_same t = rw kept_renamed (any_renamed shift t (kept k))

  -- and the same writes of them,
  kept_writes_renamed : kept_writes k' ≡ map (renamed_write shift) (kept_writes k)
  unfolding kept_writes
  kept_writes_renamed =
      let p : Write → Bool = λ w. any (same_name w.writer) (kept k) in
      let q : Write → Bool = λ w. any (same_name w.writer) (kept k') in
      ap (select q) r.writes ∙ select_map (renamed_write shift) p q (λ w. kept_same w.writer) k.writes

  kept_writes_same : SameWrites (kept_writes k) (kept_writes k')
  kept_writes_same = sym (ap (map nameless) kept_writes_renamed ∙ map-map nameless (renamed_write shift) (kept_writes k))

  pub kept_saved : (s s' : List Write) → SameWrites s s' → SameWrites (kept_writes k ++ s) (kept_writes k' ++ s')
  kept_saved s s' p = rw (map-append nameless (kept_writes k) s, map-append nameless (kept_writes k') s', kept_writes_same, p) refl
