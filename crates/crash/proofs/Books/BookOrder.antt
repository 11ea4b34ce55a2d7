-- No command changes what a book began with: its rule, and the first number of each core.
use Prim.Native.Nat.{ℕ}
use mathlib.Core.Path.{◌≡◌, refl}
use Rattle.model.specs.Bytes.{Bytes}
use Rattle.model.specs.Card.{new_name}
use Rattle.model.specs.Tape.{CHECKPOINT, CLOSE, CUT, Command, FORMAT, RECOVER, RETIRE, STORE, WRITE}
use Rattle.model.specs.declared.Name.{Name}
use Rattle.model.proofs.Command.{of_cond}
use Rattle.crash.specs.Book.{Book, has_running, has_closed, has_committed, begin, note, write_book, close_book, store_book, checkpoint_book, retire_book}
use Rattle.crash.specs.Service.{noted}

begin_begun : (t : Name) (k : Book) → (begin t k).begun ≡ k.begun
unfolding begin
begin_begun t k = refl

write_begun : (c b o : ℕ) (v : Bytes) (k : Book) → (write_book c b o v k).begun ≡ k.begun
unfolding write_book note
write_begun c b o v k = of_cond (λ (x : Book). x.begun ≡ k.begun) (has_running k c) refl (begin_begun (new_name c (k.next c)) k)

-- no command of a book changes what it began with
pub noted_begun : (k : Command) (b : Book) → (noted k b).begun ≡ b.begun
unfolding noted close_book store_book checkpoint_book retire_book
noted_begun (FORMAT c n j) b = refl
noted_begun (WRITE task c n o v) b = write_begun c n o v b
noted_begun (CLOSE c) b = of_cond (λ (x : Book). x.begun ≡ b.begun) (has_running b c) refl refl
noted_begun (STORE c) b = of_cond (λ (x : Book). x.begun ≡ b.begun) (has_closed b c) refl refl
noted_begun (CHECKPOINT c) b = of_cond (λ (x : Book). x.begun ≡ b.begun) (has_committed b c) refl refl
noted_begun CUT b = refl
noted_begun RECOVER b = refl
noted_begun (RETIRE c) b = of_cond (λ (x : Book). x.begun ≡ b.begun) (has_committed b c) refl refl
