-- What the books say of short histories, by computing: of each rule of the service book a history on which it matters.
-- The first two are the paper's own warnings: a name for a holder already committed, and names on both sides.
-- They stand first, so that a wrong rule is refused here, by a fact about it.
use Prim.Native.Nat.{ℕ}
use mathlib.Core.Path.{◌≡◌, refl}
use mathlib.Core.List.{List, [], ◌∷◌, ◌++◌, map}
use Rattle.model.specs.Card.{new_name}
use Rattle.model.specs.Valid.{Order, unordered, in_sequence}
use Rattle.model.proofs.Computes.{computes}
use Rattle.crash.specs.Book.{Write, empty_book, change, raise, begin, book_holder, meets, ruled, holder_after, note, write_book, close_book, store_book, checkpoint_book, retire_book, required_in, committed_in, required_within, kept, kept_writes, image, blank}
use Rattle.crash.specs.Service.{Service, empty_service, noted, cut_service, fed, served}
use Rattle.model.specs.Tape.{lamp_task, CHECKPOINT, CLOSE, CUT, Command, STORE, WRITE, RETIRE}
use Rattle.model.specs.declared.Name.{Name}

-- ---- commands that were carried out
-- four bytes x into block 0
abbrev pub write : ℕ → ℕ → ℕ → Command
write c o x = WRITE lamp_task c 0 o (x ∷ x ∷ x ∷ x ∷ [])

-- CLOSE and the three STOREs that commit a transaction of one block
abbrev pub commits : ℕ → List Command
commits c = CLOSE c ∷ STORE c ∷ STORE c ∷ STORE c ∷ []

abbrev fed_all : Service → List Command → Service
fed_all v [] = v
fed_all v (k ∷ ks) = fed_all (fed k 0 v) ks

-- who wrote what the book of a rule has kept
abbrev kept_by : Order → List Command → List Name
kept_by o ks = map (λ (w : Write). w.writer) (fed_all (empty_service o 1) ks).saved

unfoldable pub books : Unit {0}
unfolding computes empty_book change raise begin book_holder meets ruled holder_after note write_book close_book store_book checkpoint_book retire_book required_in committed_in required_within kept kept_writes image blank empty_service noted cut_service served fed
books = tt

-- Core 1 writes into core 0's block, core 0 commits, core 2 takes the block and commits: core 1 is lost, and so all are.
pub committed_holder_is_named : kept_by in_sequence (write 0 0 1 ∷ write 1 4 2 ∷ commits 0 ++ write 2 8 3 ∷ commits 2 ++ CUT ∷ []) ≡ []
unfolding books
committed_holder_is_named = refl

-- A running holder names the writer too: core 0 commits alone and is not kept.
pub running_holder_names : kept_by in_sequence (write 0 0 1 ∷ write 1 4 2 ∷ commits 0 ++ CUT ∷ []) ≡ []
unfolding books
running_holder_names = refl

-- Both committed, both are kept, in the order issued (the newest first), and a second cut adds nothing.
pub both_kept : kept_by in_sequence (write 0 0 1 ∷ write 1 4 2 ∷ commits 0 ++ CLOSE 1 ∷ STORE 1 ∷ STORE 1 ∷ CUT ∷ CUT ∷ []) ≡ new_name 1 1 ∷ new_name 0 1 ∷ []
unfolding books
both_kept = refl

-- Core 0's first transaction depends on one that is lost, its second lists none. Where no order is implied, the later one is kept
-- without the earlier; in sequence neither is.
abbrev second_alone : List Command
second_alone = write 0 0 1 ∷ write 1 4 2 ∷ commits 0 ++ WRITE lamp_task 0 1 0 (3 ∷ 3 ∷ 3 ∷ 3 ∷ []) ∷ commits 0 ++ CUT ∷ []

pub later_kept_alone : (kept_by unordered second_alone ≡ new_name 0 2 ∷ []) × (kept_by in_sequence second_alone ≡ [])
unfolding books
later_kept_alone = (refl, refl)

-- In sequence a retired one counts as kept, so the one after it is kept too.
pub after_retired_kept : kept_by in_sequence (write 0 0 1 ∷ commits 0 ++ CHECKPOINT 0 ∷ RETIRE 0 ∷ write 0 4 2 ∷ commits 0 ++ CUT ∷ []) ≡ new_name 0 2 ∷ new_name 0 1 ∷ []
unfolding books
after_retired_kept = refl

-- The first one since a cut depends on none before it: what was lost then is no part of the book.
pub first_after_cut_kept : kept_by in_sequence (write 0 0 1 ∷ CUT ∷ write 0 4 2 ∷ commits 0 ++ CUT ∷ []) ≡ new_name 0 1 ∷ []
unfolding books
first_after_cut_kept = refl

-- After the home store core 0's transaction is not retired yet, and the next writer names it.
pub home_store_retires_none : ((fed_all (empty_service in_sequence 1) (write 0 0 1 ∷ commits 0 ++ CHECKPOINT 0 ∷ write 1 4 2 ∷ [])).book.entry (new_name 1 1)).names ≡ new_name 0 1 ∷ []
unfolding books
home_store_retires_none = refl

pub master_store_retires : ((fed_all (empty_service in_sequence 1) (write 0 0 1 ∷ commits 0 ++ CHECKPOINT 0 ∷ RETIRE 0 ∷ write 1 4 2 ∷ [])).book.entry (new_name 1 1)).names ≡ []
unfolding books
master_store_retires = refl
