-- The service book and the ledger, fed the same commands and answers, agree at every point of a run: while the card is
-- not down their books differ in numbers alone and their saved writes in names alone; while it is down, the service book
-- has saved what the ledger still keeps in its book. So at every coming up both give the same area.
use Prim.Native.Nat.{ℕ, zero, suc, ◌-◌}
use native.Mathlib.Omega.{arith}
use mathlib.Core.Path.{◌≡◌, refl, sym, ap}
use mathlib.Core.List.{List, [], ◌∷◌, ◌++◌}
use mathlib.Core.Bool.{true, false, cond}
use Rattle.model.specs.Lists.{select}
use Rattle.model.specs.Card.{is_down}
use Rattle.model.specs.Valid.{Order}
use Rattle.model.proofs.Lists.{cases}
use Rattle.crash.specs.Book.{Book, empty_book, kept_writes, image, blank, has_running}
use Rattle.crash.specs.Service.{Service, empty_service, noted, cut_service, fed, served, with_noted}
use Rattle.crash.specs.Ledger.{Ledger, fresh_ledger, blank_ledger, with_book, close_ledger, cut_ledger, first_number, recover_ledger, entered, carried_out}
use Rattle.crash.proofs.Books.Rename.{Renamed, SameWrites, empty_renamed, close_renamed, noted_renamed, same_image, kept_saved, running_renamed}
use Rattle.crash.proofs.Books.Tests.{clash}
use Rattle.model.specs.Tape.{CHECKPOINT, CLOSE, CUT, Command, FORMAT, RECOVER, RETIRE, Read, STORE, WRITE, early, heard, unknown, whole, lamp_task, report_task}
use Rattle.crash.specs.Claims.{Start, from_blank, from_down, start_ledger, start_service}
use Rattle.model.specs.Shape.{new_shape}
use Rattle.model.specs.declared.Phase.{Phase}
use Rattle.model.specs.declared.Shape.{Shape}

-- a blank card is as one just come up, with nothing written
pub data Agrees (v : Service) (l : Ledger) : Type 0 where
  not_down : (shift : ℕ → ℕ) → is_down l.phase ≡ false → Renamed shift v.book l.book → SameWrites v.saved l.saved → Agrees v l
  down : is_down l.phase ≡ true → v.book ≡ empty_book l.book.begun.order (λ (c : ℕ). 1) → SameWrites v.saved (kept_writes l.book ++ l.saved) → Agrees v l

-- the phase in which a command is carried out, as far as the books need it
abbrev pub PhaseFor : Command → Phase → Type 0
PhaseFor (FORMAT c b j) p = Unit {0}
PhaseFor (WRITE task c b o v) p = is_down p ≡ false
PhaseFor (CLOSE c) p = is_down p ≡ false
PhaseFor (STORE c) p = is_down p ≡ false
PhaseFor (CHECKPOINT c) p = is_down p ≡ false
PhaseFor CUT p = Unit {0}
PhaseFor RECOVER p = is_down p ≡ true
PhaseFor (RETIRE c) p = is_down p ≡ false

-- ---- the starts
fresh_agrees : (o : Order) (n : ℕ) (s : Shape) → Agrees (empty_service o n) (fresh_ledger o s [] (λ (c : ℕ). 1))
unfolding empty_service fresh_ledger
fresh_agrees o n s = not_down (λ c. 0) refl (empty_renamed o (λ c. 0) (λ c. 1) (λ c. 1) (λ c. refl)) refl

empty_kept : (o : Order) (n : ℕ → ℕ) → kept_writes (empty_book o n) ≡ []
unfolding kept_writes select empty_book
empty_kept o n = refl

-- 'A second cut before the card is up thus adds nothing': the first left an empty book, and RECOVER does nothing in it
pub cut_twice : (v : Service) → cut_service (cut_service v) ≡ cut_service v
unfolding cut_service empty_book
cut_twice v = rw (empty_kept v.book.begun.order (λ (c : ℕ). 1))

pub start_agrees : (o : Order) (s : Start) → Agrees (start_service o s) (start_ledger o s)
unfolding start_service start_ledger empty_service blank_ledger cut_ledger fresh_ledger empty_book
start_agrees o (from_blank d m) = not_down (λ c. 0) refl (empty_renamed o (λ c. 0) (λ c. 1) (λ c. 1) (λ c. refl)) refl
start_agrees o (from_down y s m) = down refl refl (rw (empty_kept o (λ (c : ℕ). 1)) refl)

-- ---- the commands
module _ (v : Service) (l : Ledger) where
  cut_agrees : Agrees v l → Agrees (cut_service v) (cut_ledger l)
  unfolding cut_service cut_ledger empty_book
  cut_agrees (not_down shift p r s) = down refl (ap (λ (o : Order). empty_book o (λ (c : ℕ). 1)) (sym r.begun.order)) (kept_saved r v.saved l.saved s)
  cut_agrees (down p e s) = down refl (ap (λ (k : Book). empty_book k.begun.order (λ (c : ℕ). 1)) e) (rw (e, empty_kept l.book.begun.order (λ (c : ℕ). 1)) s)

  order_same : Agrees v l → v.book.begun.order ≡ l.book.begun.order
  unfolding empty_book
  order_same (not_down shift p r s) = sym r.begun.order
  order_same (down p e s) = ap (λ (k : Book). k.begun.order) e

  format_agrees : Agrees v l → (n : ℕ) (s : Shape) → Agrees (empty_service v.book.begun.order n) (fresh_ledger l.book.begun.order s [] (λ (c : ℕ). 1))
  format_agrees g n s = rw (order_same g) (fresh_agrees l.book.begun.order n s)

  recover_agrees : is_down l.phase ≡ true → Agrees v l → (bs : List ℕ) → Agrees v (recover_ledger bs l)
  unfolding recover_ledger fresh_ledger
  recover_agrees d (not_down shift p r s) bs = clash d p
  recover_agrees d (down p e s) [] =
      let n : ℕ → ℕ = first_number l in
      not_down (λ c. n c - 1) refl (rw e (empty_renamed l.book.begun.order (λ c. n c - 1) (λ c. 1) n (λ c. omega arith))) s
  recover_agrees d (down p e s) (b ∷ bs) = down refl e s

  close_agrees : (c : ℕ) → is_down l.phase ≡ false → Agrees v l → Agrees (with_noted (CLOSE c) v) (cond (has_running l.book c) (close_ledger c l) l)
  unfolding close_ledger noted
  close_agrees c d (not_down shift p r s) =
      cases (has_running v.book c)
      (λ e. rw (running_renamed r c, e) (not_down shift p (close_renamed r c) s))
      (λ e. rw (running_renamed r c, e) (not_down shift p r s))
  close_agrees c d (down p e s) = clash p d

  noted_agrees : (k : Command) → is_down l.phase ≡ false → Agrees v l → Agrees (with_noted k v) (with_book l (noted k l.book))
  noted_agrees k d (not_down shift p r s) = not_down shift p (noted_renamed r k) s
  noted_agrees k d (down p e s) = clash p d

  served_agrees : (k : Command) → PhaseFor k l.phase → Agrees v l → Agrees (served k v) (carried_out k l)
  unfolding served carried_out
  served_agrees (FORMAT c b j) h g = format_agrees g b (new_shape c b j)
  -- a service book that notes the writes of one task alone fails here
  served_agrees (WRITE lamp_task c b o d) h g = noted_agrees (WRITE lamp_task c b o d) h g
  served_agrees (WRITE report_task c b o d) h g = noted_agrees (WRITE report_task c b o d) h g
  served_agrees (CLOSE c) h g = close_agrees c h g
  served_agrees (STORE c) h g = noted_agrees (STORE c) h g
  served_agrees (CHECKPOINT c) h g = noted_agrees (CHECKPOINT c) h g
  served_agrees CUT h g = cut_agrees g
  served_agrees RECOVER h g = recover_agrees h g l.left
  served_agrees (RETIRE c) h g = noted_agrees (RETIRE c) h g

  fed_agrees : (k : Command) (answer : ℕ) → (answer ≡ 0 → PhaseFor k l.phase) → Agrees v l → Agrees (fed k answer v) (entered k answer l)
  unfolding fed entered
  fed_agrees k zero h g = served_agrees k (h refl) g
  fed_agrees k (suc n) h g = g

  pub heard_agrees : (r : Read) (answer : ℕ) → ((k : Command) → r ≡ whole k → answer ≡ 0 → PhaseFor k l.phase) → Agrees v l
      → Agrees (heard fed r answer v) (heard entered r answer l)
  unfolding heard
  heard_agrees (whole k) answer h g = fed_agrees k answer (h k refl) g
  heard_agrees unknown answer h g = g
  heard_agrees early answer h g = g

-- ---- the areas
pub area_same : (v : Service) (l : Ledger) → is_down l.phase ≡ false → Agrees v l → (b : ℕ) → image blank v.saved b ≡ image blank l.saved b
area_same v l d (not_down shift p r s) b = same_image blank v.saved l.saved s b
area_same v l d (down p e s) b = clash p d
