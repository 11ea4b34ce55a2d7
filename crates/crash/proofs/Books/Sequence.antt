-- Paper 02, (c): 'what is kept is a beginning of each core's run', and 'A cut may now keep fewer transactions': of any book, whatever it
-- was fed.
use Prim.Native.Nat.{ℕ, zero, suc, ◌-◌, ◌≤◌}
use native.Mathlib.Omega.{arith}
use mathlib.Core.Path.{◌≡◌, refl, ap, ◌∙◌, subst}
use mathlib.Core.Logic.{⊎_elim}
use mathlib.Core.Bool.{false}
use mathlib.Core.List.{List, [], ◌∷◌, Memᴰ}
use lib.Dec.{ltb}
use borrow.Author.Tests.{lt-ltb}
use Rattle.model.specs.Card.{new_name}
use Rattle.model.specs.Shrink.{Within}
use Rattle.model.specs.Valid.{Order, unordered, in_sequence, required}
use Rattle.model.specs.Command.{World}
use Rattle.model.specs.Tape.{CHECKPOINT, CLOSE, CUT, Command, FORMAT, Point, RECOVER, RETIRE, STORE, WRITE}
use Rattle.model.specs.declared.Name.{Name}
use Rattle.model.proofs.Command.{of_cond}
use Rattle.model.proofs.Tape.{heard_keeps}
use Rattle.model.proofs.Required.{predecessor_required}
use Rattle.model.proofs.Lists.{all_earlier}
use Rattle.crash.specs.Book.{Beginning, Book, empty_book, required_in, committed_in, kept}
use Rattle.crash.specs.Service.{Service, empty_service, with_noted, cut_service, served, fed}
use Rattle.crash.specs.Claims.{Start, from_blank, from_down, start_service, fed_point, BeginsWith, KeptBegins}
use Rattle.crash.proofs.Books.BookOrder.{noted_begun}
use Rattle.crash.proofs.Books.Tests.{clash, any_in, in_any, name_equality}
use Rattle.crash.proofs.Books.Largest.{largest_mono, member_of, requires, listed_requires, committed_largest}

module _ (k : Book) (o : k.begun.order ≡ in_sequence) where
  before_required : (c n : ℕ) → k.begun.first c ≤ n → Memᴰ (new_name c n) (required_in k (new_name c (suc n)))
  unfolding required_in
  before_required c n h =
      let e : suc n - 1 ≡ n = omega arith in
      rw (lt-ltb (k.begun.first c) (suc n) (omega arith), o) (subst (λ (i : ℕ). Memᴰ (new_name c i) (required in_sequence (new_name c (suc n)) (k.entry (new_name c (suc n))).names)) e (predecessor_required _ _))

  before_kept : (c n : ℕ) → k.begun.first c ≤ n → Memᴰ (new_name c (suc n)) (kept k) → Memᴰ (new_name c n) (kept k)
  before_kept c n h m =
      any_in name_equality _ _
      (⊎_elim (λ p. p) (λ p. clash p refl) ((committed_largest k).closed _ _ (in_any name_equality m) (in_any name_equality (before_required c n h))))

  pub begins_with_first : BeginsWith k.begun.first k
  begins_with_first c = all_earlier (λ n. Memᴰ (new_name c n) (kept k)) (k.begun.first c) (before_kept c)

-- the same book under another rule
abbrev pub with_order : Order → Book → Book
with_order o k =
    record { begun = record { order = o; first = k.begun.first }; opened = k.opened; entry = k.entry; writes = k.writes; oldest = k.oldest; uncommitted = k.uncommitted; next = k.next }

-- where no order is implied, what is required is what is listed
listed_alone : (k : Book) (t : Name) → required_in (with_order unordered k) t ≡ (k.entry t).names
unfolding required_in required
listed_alone k t = of_cond (λ (ns : List Name). ns ≡ (k.entry t).names) (ltb (k.begun.first t.core) t.number) refl refl

-- what a book keeps it keeps too where no order is implied
pub kept_fewer : (k : Book) → Within (kept k) (kept (with_order unordered k))
unfolding committed_in
kept_fewer k t m =
    let u = with_order unordered k in
    any_in name_equality t _
    (largest_mono (member_of (committed_in k)) (member_of (committed_in u)) (requires k) (requires u) (λ t. false) (member_of (kept k)) (member_of (kept u))
    (λ v h. h) (λ v w h n. listed_requires k v w (rw (listed_alone k v) at n)) (committed_largest k) (committed_largest u) t (in_any name_equality m))

-- ---- the service book: fed any command with any answer, it keeps its rule and begins with 1
abbrev FromOne : Service → Type 0
FromOne v = v.book.begun ≡ record { order = in_sequence; first = λ (c : ℕ). 1 }

noted_one : (k : Command) (v : Service) → FromOne v → FromOne (with_noted k v)
noted_one k v h = noted_begun k v.book ∙ h

-- FORMAT and CUT begin anew, under the rule that the book has
anew_one : (v : Service) → FromOne v → (empty_book v.book.begun.order (λ (c : ℕ). 1)).begun ≡ record { order = in_sequence; first = λ (c : ℕ). 1 }
unfolding empty_book
anew_one v h = ap (λ (x : Beginning). record { order = x.order; first = λ (c : ℕ). 1 }) h

served_one : (k : Command) (v : Service) → FromOne v → FromOne (served k v)
unfolding served empty_service cut_service
served_one (FORMAT c b j) v h = anew_one v h
served_one (WRITE task c b o d) v h = noted_one (WRITE task c b o d) v h
served_one (CLOSE c) v h = noted_one (CLOSE c) v h
served_one (STORE c) v h = noted_one (STORE c) v h
served_one (CHECKPOINT c) v h = noted_one (CHECKPOINT c) v h
served_one CUT v h = anew_one v h
served_one RECOVER v h = h
served_one (RETIRE c) v h = noted_one (RETIRE c) v h

fed_one : (k : Command) (n : ℕ) (v : Service) → FromOne v → FromOne (fed k n v)
unfolding fed
fed_one k zero v h = served_one k v h
fed_one k (suc n) v h = h

begins_with_one : (v : Service) → FromOne v → BeginsWith (λ (c : ℕ). 1) v.book
begins_with_one v h = subst (λ (x : Beginning). BeginsWith x.first v.book) h (begins_with_first v.book (ap (λ (x : Beginning). x.order) h))

begins_along : (v : Service) (ps : List (Point World)) → FromOne v → KeptBegins v ps
unfolding fed_point
begins_along v [] h = begins_with_one v h
begins_along v (p ∷ ps) h = (begins_with_one v h, begins_along (fed_point p v) ps (heard_keeps fed FromOne fed_one p.read p.outcome.answer v h))

start_one : (s : Start) → FromOne (start_service in_sequence s)
unfolding start_service empty_service empty_book
start_one (from_blank d m) = refl
start_one (from_down y s m) = refl

-- from every start, whatever the points are
pub kept_begins : (s : Start) (ps : List (Point World)) → KeptBegins (start_service in_sequence s) ps
kept_begins s ps = begins_along _ ps (start_one s)
