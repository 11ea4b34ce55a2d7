-- 'A name stands once in a list.' Of every list of a book or ledger, whatever the commands and answers that it was fed. What a commit
-- of numbers names has one name of a core at most, whatever its bytes.
use Prim.Native.Nat.{ℕ, zero, suc, ◌<◌}
use native.Mathlib.Omega.{arith}
use mathlib.Core.Path.{◌≡◌, refl, ap, ◌∙◌, subst}
use mathlib.Core.Bool.{Bool, true, false, cond, not, ◌&&◌}
use mathlib.Core.List.Memᴰ
use mathlib.Core.List.{List, [], ◌∷◌, ◌++◌, map, map-append, append-nil, Memᴰ}
use lib.Dec.{leb}
use borrow.Author.Tests.{not-true}
use Rattle.model.specs.Lists.{below, any, select}
use Rattle.model.specs.Bytes.{Bytes}
use Rattle.model.specs.Card.{new_name, same_name}
use Rattle.model.specs.Layout.{names_from}
use Rattle.model.specs.Command.{World}
use Rattle.model.specs.Tape.{Point, CHECKPOINT, CLOSE, CUT, Command, FORMAT, RECOVER, RETIRE, STORE, WRITE}
use Rattle.model.specs.Valid.{Order}
use Rattle.model.specs.declared.Name.{Name}
use Rattle.model.proofs.Command.{of_cond}
use Rattle.model.proofs.Tape.{heard_keeps}
use Rattle.model.proofs.Lists.{cases, and_both, and_left, and_right, or_none, any_append, mem_below}
use Rattle.model.proofs.Select.{select_append, select_mem}
use Rattle.model.proofs.Valid.{same_name_refl}
use Rattle.crash.specs.Book.{Stage, Entry, Book, empty_book, change, staged, taking, naming, has_running, has_closed, has_committed, begin, book_holder, Meeting, no_holder, own, running_holder, closed_holder, meets, ruled, note, write_book, close_book, store_book, checkpoint_book, retire_book}
use Rattle.crash.specs.Service.{Service, empty_service, noted, cut_service, fed, served}
use Rattle.crash.specs.Ledger.{Ledger, fresh_ledger, blank_ledger, close_ledger, cut_ledger, recover_ledger, entered, carried_out}
use Rattle.crash.specs.Claims.{fed_point, Start, from_blank, from_down, entered_point, start_ledger}
use Rattle.crash.proofs.Books.BookEntries.{same_name_false, change_each}
use Rattle.crash.proofs.Books.Tests.{clash, any_in, name_equality}

-- no name stands twice
unfoldable pub once : List Name → Bool
once [] = true
once (n ∷ ns) = not (any (same_name n) ns) && once ns

-- in the lists of a book
abbrev pub NamesOnce : Book → Type 0
NamesOnce k = (t : Name) → once (k.entry t).names ≡ true

-- at every point, and at the end
abbrev pub OnceEntered : Ledger → List (Point World) → Type 0
OnceEntered l [] = NamesOnce l.book
OnceEntered l (p ∷ ps) = NamesOnce l.book × OnceEntered (entered_point p l) ps

abbrev pub OnceServed : Service → List (Point World) → Type 0
OnceServed v [] = NamesOnce v.book
OnceServed v (p ∷ ps) = NamesOnce v.book × OnceServed (fed_point p v) ps

-- ---- a name added where it does not stand
none_added : (n x : Name) (ns : List Name) → any (same_name x) ns ≡ false → same_name x n ≡ false → any (same_name x) (ns ++ (n ∷ [])) ≡ false
unfolding any
none_added n x ns a e = any_append (same_name x) ns (n ∷ []) ∙ rw (a, e)

once_added : (n : Name) (ns : List Name) → any (same_name n) ns ≡ false → once ns ≡ true → once (ns ++ (n ∷ [])) ≡ true
unfolding once any
once_added n [] a h = refl
once_added n (x ∷ xs) a h =
    let p = or_none (same_name n x) (any (same_name n) xs) a in
    let f : any (same_name x) xs ≡ false = not-true _ (and_left (not (any (same_name x) xs)) (once xs) h) in
    let g : same_name x n ≡ false = same_name_false x n (λ e. clash (rw e (same_name_refl n)) p.0) in
    and_both (ap not (none_added n x xs f g)) (once_added n xs p.1 (and_right (not (any (same_name x) xs)) (once xs) h))

once_named : (n : Name) (e : Entry) → once e.names ≡ true → once (naming n e).names ≡ true
once_named n e h = cases (any (same_name n) e.names) (λ a. rw a h) (λ a. rw a (once_added n e.names a h))

-- ---- the commands in a book
module _ (entry : Name → Entry) (h : (u : Name) → once (entry u).names ≡ true) where
  changed_once : (t : Name) (g : Entry → Entry) → ((e : Entry) → once e.names ≡ true → once (g e).names ≡ true) → (u : Name) → once (change t g entry u).names ≡ true
  changed_once t g keeps = change_each (λ (u : Name) (e : Entry). once e.names ≡ true) t g entry (keeps (entry t) (h t)) (λ u ne. h u)

  staged_once : (t : Name) (g : Stage) (u : Name) → once (change t (staged g) entry u).names ≡ true
  staged_once t g = changed_once t (staged g) (λ e p. p)

ruled_once : (m : Meeting) (t : Name) (b : ℕ) (entry : Name → Entry) → ((u : Name) → once (entry u).names ≡ true) → (u : Name) → once (ruled m t b entry u).names ≡ true
unfolding ruled
ruled_once no_holder t b entry h = changed_once entry h t (taking b) (λ e p. p)
ruled_once own t b entry h = h
ruled_once (running_holder u) t b entry h = changed_once (change t (naming u) entry) (changed_once entry h t (naming u) (once_named u)) u (naming t) (once_named t)
ruled_once (closed_holder u) t b entry h = changed_once entry h t (λ (e : Entry). taking b (naming u e)) (once_named u)

note_once : (t : Name) (b o : ℕ) (v : Bytes) (k : Book) → NamesOnce k → NamesOnce (note t b o v k)
unfolding note
note_once t b o v k h = ruled_once (meets k t (book_holder k b k.writes)) t b k.entry h

begin_once : (t : Name) (k : Book) → NamesOnce k → NamesOnce (begin t k)
unfolding begin
begin_once t k h = staged_once k.entry h t _

module _ (c : ℕ) (k : Book) (h : NamesOnce k) where
  write_once : (b o : ℕ) (v : Bytes) → NamesOnce (write_book c b o v k)
  unfolding write_book
  write_once b o v =
      let t = new_name c (k.next c) in
      note_once t b o v (cond (has_running k c) k (begin t k)) (of_cond NamesOnce (has_running k c) h (begin_once t k h))

  close_once : NamesOnce (close_book c k)
  unfolding close_book
  close_once = staged_once k.entry h _ _

  store_once : NamesOnce (store_book c k)
  unfolding store_book
  store_once = staged_once k.entry h _ _

  checkpoint_once : NamesOnce (checkpoint_book c k)
  unfolding checkpoint_book
  checkpoint_once = staged_once k.entry h _ _

  retire_once : NamesOnce (retire_book c k)
  unfolding retire_book
  retire_once = staged_once k.entry h _ _

empty_once : (o : Order) (first : ℕ → ℕ) → NamesOnce (empty_book o first)
unfolding empty_book once
empty_once o first t = refl

noted_once : (k : Command) (b : Book) → NamesOnce b → NamesOnce (noted k b)
unfolding noted
noted_once (FORMAT c n j) b h = h
noted_once (WRITE task c n o v) b h = write_once c b h n o v
noted_once (CLOSE c) b h = of_cond NamesOnce (has_running b c) (close_once c b h) h
noted_once (STORE c) b h = of_cond NamesOnce (has_closed b c) (store_once c b h) h
noted_once (CHECKPOINT c) b h = of_cond NamesOnce (has_committed b c) (checkpoint_once c b h) h
noted_once CUT b h = h
noted_once RECOVER b h = h
noted_once (RETIRE c) b h = of_cond NamesOnce (has_committed b c) (retire_once c b h) h

served_once : (k : Command) (v : Service) → NamesOnce v.book → NamesOnce (served k v).book
unfolding served empty_service cut_service
served_once (FORMAT c b j) v h = empty_once _ _
served_once (WRITE task c b o d) v h = noted_once (WRITE task c b o d) v.book h
served_once (CLOSE c) v h = noted_once (CLOSE c) v.book h
served_once (STORE c) v h = noted_once (STORE c) v.book h
served_once (CHECKPOINT c) v h = noted_once (CHECKPOINT c) v.book h
served_once CUT v h = empty_once _ _
served_once RECOVER v h = h
served_once (RETIRE c) v h = noted_once (RETIRE c) v.book h

recover_once : (bs : List ℕ) (l : Ledger) → NamesOnce l.book → NamesOnce (recover_ledger bs l).book
unfolding recover_ledger fresh_ledger
recover_once [] l h = empty_once _ _
recover_once (b ∷ bs) l h = h

carried_once : (k : Command) (l : Ledger) → NamesOnce l.book → NamesOnce (carried_out k l).book
unfolding carried_out fresh_ledger close_ledger cut_ledger
carried_once (FORMAT c b j) l h = empty_once _ _
carried_once (WRITE task c b o v) l h = noted_once (WRITE task c b o v) l.book h
carried_once (CLOSE c) l h = of_cond (λ (l : Ledger). NamesOnce l.book) (has_running l.book c) (close_once c l.book h) h
carried_once (STORE c) l h = noted_once (STORE c) l.book h
carried_once (CHECKPOINT c) l h = noted_once (CHECKPOINT c) l.book h
carried_once CUT l h = h
carried_once RECOVER l h = recover_once l.left l h
carried_once (RETIRE c) l h = noted_once (RETIRE c) l.book h

fed_once : (k : Command) (n : ℕ) (v : Service) → NamesOnce v.book → NamesOnce (fed k n v).book
unfolding fed
fed_once k zero v h = served_once k v h
fed_once k (suc n) v h = h

entered_once : (k : Command) (n : ℕ) (l : Ledger) → NamesOnce l.book → NamesOnce (entered k n l).book
unfolding entered
entered_once k zero l h = carried_once k l h
entered_once k (suc n) l h = h

-- ---- along any points
entered_along : (l : Ledger) (ps : List (Point World)) → NamesOnce l.book → OnceEntered l ps
unfolding entered_point
entered_along l [] h = h
entered_along l (p ∷ ps) h =
    (h, entered_along (entered_point p l) ps (heard_keeps entered (λ (l : Ledger). NamesOnce l.book) entered_once p.read p.outcome.answer l h))

served_along : (v : Service) (ps : List (Point World)) → NamesOnce v.book → OnceServed v ps
unfolding fed_point
served_along v [] h = h
served_along v (p ∷ ps) h = (h, served_along (fed_point p v) ps (heard_keeps fed (λ (v : Service). NamesOnce v.book) fed_once p.read p.outcome.answer v h))

pub service_once : (o : Order) (n : ℕ) (ps : List (Point World)) → OnceServed (empty_service o n) ps
unfolding empty_service
service_once o n ps = served_along (empty_service o n) ps (empty_once _ _)

start_once : (o : Order) (s : Start) → NamesOnce (start_ledger o s).book
unfolding start_ledger blank_ledger cut_ledger fresh_ledger
start_once o (from_blank d m) = empty_once _ _
start_once o (from_down y s m) = empty_once _ _

-- From every start, whatever the points are: no list has a name twice.
pub names_once : (o : Order) (s : Start) (ps : List (Point World)) → OnceEntered (start_ledger o s) ps
names_once o s ps = entered_along (start_ledger o s) ps (start_once o s)

-- ---- a commit of numbers
module _ (f : ℕ → ℕ) where
  named : ℕ → List Name
  named n = select (λ (n : Name). leb 1 n.number) (map (λ (c : ℕ). new_name c (f c)) (below n))

  named_more : (n : ℕ) → named (suc n) ≡ named n ++ cond (leb 1 (f n)) (new_name n (f n) ∷ []) []
  unfolding named below select
  named_more n =
      ap (select (λ (n : Name). leb 1 n.number)) (map-append (λ (c : ℕ). new_name c (f c)) (below n) (n ∷ []))
      ∙ select_append (λ (n : Name). leb 1 n.number) (map (λ (c : ℕ). new_name c (f c)) (below n)) (new_name n (f n) ∷ [])

  named_below : (n : ℕ) (x : Name) → Memᴰ x (named n) → x.core < n
  unfolding named
  named_below n x m =
      let r = Memᴰ.of_map (λ (c : ℕ). new_name c (f c)) (below n) (select_mem (λ (n : Name). leb 1 n.number) _ x m).0 in
      subst (λ (x : Name). x.core < n) r.2 (mem_below n r.1)

  named_once : (n : ℕ) → once (named n) ≡ true
  named_once zero = unfold named below select once in refl
  named_once (suc n) =
      rw (named_more n)
      (cases (leb 1 (f n))
      (λ h. rw h (once_added (new_name n (f n)) (named n)
      (cases (any (same_name (new_name n (f n))) (named n))
      (λ a. absurd (omega (arith, named_below n (new_name n (f n)) (any_in name_equality (new_name n (f n)) (named n) a))))
      (λ a. a)) (named_once n)))
      (λ h. rw (h, append-nil (named n)) (named_once n)))

  pub numbers_once : once (names_from f) ≡ true
  unfolding names_from named
  numbers_once = named_once 8
