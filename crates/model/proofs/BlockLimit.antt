-- Paper 02, (h): 36 is the report task's alone, on any card value, any slices and any tape. Of command 2 its condition is that of 25, which
-- comes before; no other command asks it.
use Rattle.model.proofs.Base.{ℕ, arith, ◌≡◌, refl, sym, ◌∙◌, ◌≢◌, Bool, true, false, not, false≢true, List, [], ◌∷◌, Memᴰ, eqb, all}
use Rattle.model.specs.Bytes.{Bytes}
use Rattle.model.specs.Limits.{max_taken}
use Rattle.model.specs.Command.{World, First, refusal}
use Rattle.model.specs.Tape.{lamp_task, report_task, FORMAT, WRITE, CLOSE, STORE, CHECKPOINT, CUT, RECOVER, RETIRE, Read, whole, unknown, early, read_at, command_byte}
use Rattle.model.specs.Valid.{Order}
use Rattle.model.specs.Write.{write_conditions}
use Rattle.model.specs.Step.{conditions_of, conditions_on, step_by, step_at_by}
use Rattle.model.proofs.Lists.{all_mem}
use Rattle.model.proofs.Command.{first_number, first_refusal, refusal_numbers, read_numbers, read_numbers_lem, read_answer, step_answer, decided_refused, command_decided}
use Rattle.model.proofs.Encoded.{write_byte, encoded, own_byte}

-- a condition with another number
skips : (p : Bool) (n m : ℕ) (ts : List (Bool × ℕ)) → n ≢ m → refusal ts ≢ m → refusal ((p, n) ∷ ts) ≢ m
unfolding refusal
skips true n m ts h r = h
skips false n m ts h r = r

-- the same condition twice: the second is never the first that holds
asked_before : (p : Bool) (n m : ℕ) (ts : List (Bool × ℕ)) → n ≢ m → refusal ts ≢ m → refusal ((p, n) ∷ (p, m) ∷ ts) ≢ m
unfolding refusal
asked_before true n m ts h r = h
asked_before false n m ts h r = r

none_36 : refusal [] ≢ 36
unfolding refusal
none_36 e = omega (arith, e)

lamp_conditions : (c b o : ℕ) (w : World) → refusal (write_conditions max_taken c b o w) ≢ 36
unfolding write_conditions
lamp_conditions c b o w =
    skips _ 1 36 _ (λ e. omega arith)
    (skips _ 20 36 _ (λ e. omega arith)
    (skips _ 22 36 _ (λ e. omega arith)
    (skips _ 5 36 _ (λ e. omega arith)
    (skips _ 6 36 _ (λ e. omega arith)
    (skips _ 7 36 _ (λ e. omega arith)
    (asked_before _ 25 36 _ (λ e. omega arith)
    (skips _ 26 36 _ (λ e. omega arith)
    (skips _ 27 36 _ (λ e. omega arith) none_36))))))))

module _ (o : Order) where
  pub lamp_never_36 : (c b i : ℕ) (v : Bytes) (w : World) → (step_by o (WRITE lamp_task c b i v) w).answer ≢ 36
  unfolding conditions_of
  lamp_never_36 c b i v w e = lamp_conditions c b i w (sym (step_answer o (WRITE lamp_task c b i v) w) ∙ e)

  -- on a tape: where 36 is answered, the command's byte is 9
  pub byte_of_36 : (t : Bytes) (at : ℕ) (w : World) → (step_at_by o t at w).answer ≡ 36 → command_byte t at ≡ 9
  unfolding conditions_on conditions_of read_numbers refusal_numbers encoded write_byte all
  byte_of_36 t at w h = go (read_at t at) refl
    where
      first : First 36 (conditions_on o (read_at t at) w)
      first = rw h at (decided_refused (command_decided o t at w) (read_answer o (read_at t at) w) (rw h (omega arith))).0

      among : Memᴰ 36 (read_numbers (read_at t at))
      among = rw (read_numbers_lem o (read_at t at) w) at (first_number first)

      other : (r : Read) → read_at t at ≡ r → all (λ (n : ℕ). not (eqb n 36)) (read_numbers r) ≡ true → command_byte t at ≡ 9
      other r e f = absurd (false≢true (all_mem (λ (n : ℕ). not (eqb n 36)) (read_numbers r) f (rw e at among)))

      go : (r : Read) → read_at t at ≡ r → command_byte t at ≡ 9
      go (whole (FORMAT c b j)) e = other (whole (FORMAT c b j)) e refl
      go (whole (WRITE lamp_task c b i v)) e = absurd (lamp_conditions c b i w (first_refusal (rw e at first)))
      go (whole (WRITE report_task c b i v)) e = sym (own_byte t at (WRITE report_task c b i v) e)
      go (whole (CLOSE c)) e = other (whole (CLOSE c)) e refl
      go (whole (STORE c)) e = other (whole (STORE c)) e refl
      go (whole (CHECKPOINT c)) e = other (whole (CHECKPOINT c)) e refl
      go (whole CUT) e = other (whole CUT) e refl
      go (whole RECOVER) e = other (whole RECOVER) e refl
      go (whole (RETIRE c)) e = other (whole (RETIRE c)) e refl
      go unknown e = other unknown e refl
      go early e = other early e refl
