-- Refusals: which number is answered, that nothing else happens then, and that the numbers of each command are the
-- paper's in the paper's order. Each command of a tape is refused by the first of its conditions that holds, or carried out.
use Prim.Native.Nat.{ℕ, zero, suc, ◌<◌}
use native.Mathlib.Omega.{arith}
use mathlib.Core.Path.{◌≡◌, refl, sym, ap, ◌∙◌}
use mathlib.Core.Bool.{Bool, true, false, cond}
use mathlib.Core.List.{List, [], ◌∷◌, ◌++◌, map, Memᴰ}
use lib.Dec.{ltb}
use borrow.Author.Tests.{ltb-true}
use Rattle.model.specs.Lists.{all, Each}
use Rattle.model.specs.Bytes.{Bytes}
use Rattle.model.specs.Command.{Outcome, refusal, First, here, there, Clear, refused_with, unless, Decided, refused, carried_out, World, wrong_length}
use Rattle.model.specs.Tape.{Command, FORMAT, WRITE, CLOSE, STORE, CHECKPOINT, CUT, RECOVER, RETIRE, Read, whole, unknown, early, read_at, obeyed, command_at, is_early, is_unknown}
use Rattle.model.specs.Valid.{Order}
use Rattle.model.specs.Format.{format_conditions, formatted}
use Rattle.model.specs.Write.{write_conditions, written}
use Rattle.model.specs.Commit.{close_conditions, closed, store_conditions, stored}
use Rattle.model.specs.Checkpoint.{checkpoint_conditions, retire_conditions, stored_home, stored_master, checkpointed, retired_oldest, found_conditions, committed_conditions}
use Rattle.model.specs.Recovery.{cut_conditions, recover_conditions_by, layout_on, blocks_left, recover_step, recovered_by, recovered}
use Rattle.model.specs.declared.CommitLayout.{CommitLayout}
use Rattle.model.specs.declared.CommitLayout.TheVariants.{Numbers}
use Rattle.model.specs.Reading.{read_conditions}
use Rattle.model.specs.Step.{conditions_of, done_by, step_by, step_at_by, conditions_on, done_on, DecidesEach}
use Rattle.model.proofs.Lists.{cases, all_mem, mem_each}

-- ---- refusal
-- no number is 0, which stands for none
abbrev pub Numbered : List (Bool × ℕ) → Type 0
Numbered ts = Each (λ (n : ℕ). 0 < n) (map (λ (t : Bool × ℕ). t.1) ts)

positive : (ns : List ℕ) → all (ltb 0) ns ≡ true → Each (λ (n : ℕ). 0 < n) ns
positive ns h = mem_each (λ (n : ℕ). 0 < n) ns (λ n m. ltb-true 0 n (all_mem (ltb 0) ns h m))

pub first_refusal : {n : ℕ} {ts : List (Bool × ℕ)} → First n ts → refusal ts ≡ n
unfolding refusal
first_refusal (here h e) = rw (h, e)
first_refusal (there h f) = rw h (first_refusal f)

pub refusal_first : (ts : List (Bool × ℕ)) {n : ℕ} → refusal ts ≡ n → 0 < n → First n ts
unfolding refusal
refusal_first [] h p = absurd (omega arith)
refusal_first (t ∷ ts) {n} h p = cases t.0 (λ k. here k (rw k at h)) (λ k. there k (refusal_first ts (rw k at h) p))

pub first_number : {n : ℕ} {ts : List (Bool × ℕ)} → First n ts → Memᴰ n (map (λ (t : Bool × ℕ). t.1) ts)
first_number (here h e) = Memᴰ.head (sym e)
first_number (there h f) = Memᴰ.tail (first_number f)

pub clear_refusal : (ts : List (Bool × ℕ)) → Clear ts → refusal ts ≡ 0
unfolding refusal
clear_refusal [] c = refl
clear_refusal (t ∷ ts) c = rw c.0 (clear_refusal ts c.1)

-- the first condition does not hold where 0 is answered
pub refusal_passed : (p : Bool) (n : ℕ) (ts : List (Bool × ℕ)) → 0 < n → refusal ((p, n) ∷ ts) ≡ 0 → (p ≡ false) × (refusal ts ≡ 0)
unfolding refusal
refusal_passed true n ts i h = absurd (omega arith)
refusal_passed false n ts i h = (refl, h)

pub refusal_clear : (ts : List (Bool × ℕ)) → Numbered ts → refusal ts ≡ 0 → Clear ts
refusal_clear [] p h = tt
refusal_clear (t ∷ ts) p h = let r = refusal_passed t.0 t.1 ts p.0 h in (r.0, refusal_clear ts p.1 r.1)

-- the same of two lists joined
first_joined : {n : ℕ} {xs : List (Bool × ℕ)} (ys : List (Bool × ℕ)) → First n xs → First n (xs ++ ys)
first_joined ys (here h e) = here h e
first_joined ys (there h f) = there h (first_joined ys f)

clear_joined : (xs ys : List (Bool × ℕ)) → Clear xs → refusal (xs ++ ys) ≡ refusal ys
unfolding refusal
clear_joined [] ys c = refl
clear_joined (t ∷ xs) ys c = rw c.0 (clear_joined xs ys c.1)

-- ---- unless
module _ {W : Type 0} (ts : List (Bool × ℕ)) (w : W) (done : Outcome W) where
  pub unless_refused : (n : ℕ) → refusal ts ≡ n → 0 < n → unless ts w done ≡ refused_with n w
  unfolding unless
  unless_refused zero h p = absurd (omega arith)
  unless_refused (suc n) h p = rw (h, unless)

  pub unless_done : refusal ts ≡ 0 → unless ts w done ≡ done
  unfolding unless
  unless_done h = rw (h, unless)

  -- where what is done answers 0, the answer is the refusal
  pub unless_answer : done.answer ≡ 0 → (unless ts w done).answer ≡ refusal ts
  unless_answer h = go (refusal ts) refl
    where
      go : (n : ℕ) → refusal ts ≡ n → (unless ts w done).answer ≡ refusal ts
      go zero e = rw (unless_done e, h) (sym e)
      go (suc n) e = rw (unless_refused (suc n) e (omega arith)) (sym e)

pub unless_decided : {W : Type 0} (ts : List (Bool × ℕ)) (w : W) (done : Outcome W) → Numbered ts → Decided ts w done (unless ts w done)
unless_decided ts w done p = go (refusal ts) refl
  where
    go : (n : ℕ) → refusal ts ≡ n → Decided ts w done (unless ts w done)
    go zero e = carried_out (refusal_clear ts p e) (unless_done ts w done e)
    go (suc n) e = refused (suc n) (omega arith) (refusal_first ts e (omega arith)) (unless_refused ts w done (suc n) e (omega arith))

module _ {W : Type 0} {ts : List (Bool × ℕ)} {w : W} {done o : Outcome W} where
  -- a refused one answers the first number whose condition holds, leaves the world as it was and stores nothing
  pub decided_refused : Decided ts w done o → done.answer ≡ 0 → 0 < o.answer → First o.answer ts × (o ≡ refused_with o.answer w)
  decided_refused (refused n p f e) z q = let h : o.answer ≡ n = ap (λ (o : Outcome W). o.answer) e in (rw h f, e ∙ ap (λ (m : ℕ). refused_with m w) (sym h))
  decided_refused (carried_out c e) z q = absurd (let h : o.answer ≡ 0 = ap (λ (o : Outcome W). o.answer) e ∙ z in omega arith)

  pub decided_done : Decided ts w done o → o.answer ≡ 0 → Clear ts × (o ≡ done)
  decided_done (refused n p f e) z = absurd (let h : o.answer ≡ n = ap (λ (o : Outcome W). o.answer) e in omega arith)
  decided_done (carried_out c e) z = (c, e)

-- the outcome hangs on the number of the refusal alone
pub unless_same : {W : Type 0} (xs ys : List (Bool × ℕ)) (w : W) (done : Outcome W) → refusal xs ≡ refusal ys → unless xs w done ≡ unless ys w done
unfolding unless
unless_same xs ys w done h = rw (h, unless)

-- one list of conditions after another is the two joined
pub unless_joined : {W : Type 0} (xs ys : List (Bool × ℕ)) (w : W) (done : Outcome W) → Numbered xs → unless xs w (unless ys w done) ≡ unless (xs ++ ys) w done
unless_joined xs ys w done p = go (unless_decided xs w (unless ys w done) p)
  where
    go : Decided xs w (unless ys w done) (unless xs w (unless ys w done)) → unless xs w (unless ys w done) ≡ unless (xs ++ ys) w done
    go (refused n q f e) = e ∙ sym (unless_refused (xs ++ ys) w done n (first_refusal (first_joined ys f)) q)
    go (carried_out c e) = e ∙ sym (unless_same (xs ++ ys) ys w done (clear_joined xs ys c))

module _ {A : Type 0} (P : A → Type 0) where
  pub of_cond : (t : Bool) {x y : A} → P x → P y → P (cond t x y)
  of_cond true p q = p
  of_cond false p q = q

-- ---- the card's commands
-- the paper's numbers, in the paper's order: 1, then 20 to 23, then 4 to 8, then 25, 36 and 26 to 35
unfoldable pub refusal_numbers : Command → List ℕ
refusal_numbers (FORMAT c b j) = 1 ∷ 21 ∷ 4 ∷ []
refusal_numbers (WRITE task c b o v) = 1 ∷ 20 ∷ 22 ∷ 5 ∷ 6 ∷ 7 ∷ 25 ∷ 36 ∷ 26 ∷ 27 ∷ []
refusal_numbers (CLOSE c) = 1 ∷ 20 ∷ 22 ∷ 5 ∷ 28 ∷ 29 ∷ []
refusal_numbers (STORE c) = 1 ∷ 20 ∷ 22 ∷ 5 ∷ 30 ∷ []
refusal_numbers (CHECKPOINT c) = 1 ∷ 20 ∷ 22 ∷ 5 ∷ 31 ∷ 32 ∷ 33 ∷ 35 ∷ []
refusal_numbers CUT = 1 ∷ 20 ∷ []
refusal_numbers RECOVER = 1 ∷ 20 ∷ 23 ∷ 8 ∷ []
refusal_numbers (RETIRE c) = 1 ∷ 20 ∷ 22 ∷ 5 ∷ 31 ∷ 32 ∷ 33 ∷ 34 ∷ []

-- with 2 or 3, which are the tape's
unfoldable pub read_numbers : Read → List ℕ
read_numbers (whole k) = refusal_numbers k
read_numbers unknown = 1 ∷ 2 ∷ []
read_numbers early = 1 ∷ 3 ∷ []

numbers_positive : (r : Read) → all (ltb 0) (read_numbers r) ≡ true
unfolding read_numbers refusal_numbers all
numbers_positive (whole (FORMAT c b j)) = refl
numbers_positive (whole (WRITE task c b o v)) = refl
numbers_positive (whole (CLOSE c)) = refl
numbers_positive (whole (STORE c)) = refl
numbers_positive (whole (CHECKPOINT c)) = refl
numbers_positive (whole CUT) = refl
numbers_positive (whole RECOVER) = refl
numbers_positive (whole (RETIRE c)) = refl
numbers_positive unknown = refl
numbers_positive early = refl

recover_step_answer : (o : Order) (y z : CommitLayout) (bs : List ℕ) (w : World) → (recover_step o y z bs w).answer ≡ 0
unfolding recover_step
recover_step_answer o y z [] w = refl
recover_step_answer o y z (b ∷ bs) w = refl

module _ (o : Order) where
  pub conditions_numbers : (k : Command) (w : World) → map (λ (t : Bool × ℕ). t.1) (conditions_of o k w) ≡ refusal_numbers k
  unfolding conditions_of refusal_numbers format_conditions write_conditions close_conditions store_conditions checkpoint_conditions retire_conditions cut_conditions recover_conditions_by committed_conditions found_conditions
  conditions_numbers (FORMAT c b j) w = refl
  conditions_numbers (WRITE task c b i v) w = refl
  conditions_numbers (CLOSE c) w = refl
  conditions_numbers (STORE c) w = refl
  conditions_numbers (CHECKPOINT c) w = refl
  conditions_numbers CUT w = refl
  conditions_numbers RECOVER w = refl
  conditions_numbers (RETIRE c) w = refl

  pub read_numbers_lem : (r : Read) (w : World) → map (λ (t : Bool × ℕ). t.1) (conditions_on o r w) ≡ read_numbers r
  unfolding conditions_on read_numbers
  read_numbers_lem (whole k) w = conditions_numbers k w
  read_numbers_lem unknown w = refl
  read_numbers_lem early w = refl

  read_numbered : (r : Read) (w : World) → Numbered (conditions_on o r w)
  read_numbered r w = rw (read_numbers_lem r w) (positive (read_numbers r) (numbers_positive r))

  pub done_answer : (k : Command) (w : World) → (done_by o k w).answer ≡ 0
  unfolding done_by formatted written closed stored checkpointed stored_home retired_oldest stored_master recovered recovered_by
  done_answer (FORMAT c b j) w = refl
  done_answer (WRITE task c b i v) w = refl
  done_answer (CLOSE c) w = refl
  done_answer (STORE c) w = refl
  done_answer (CHECKPOINT c) w = refl
  done_answer CUT w = refl
  done_answer RECOVER w = recover_step_answer o (layout_on w.disk) Numbers (blocks_left o (layout_on w.disk) w) w
  done_answer (RETIRE c) w = refl

  pub read_answer : (r : Read) (w : World) → (done_on o r w).answer ≡ 0
  unfolding done_on
  read_answer (whole k) w = done_answer k w
  read_answer unknown w = refl
  read_answer early w = refl

  module _ (k : Command) (w : World) where
    pub step_answer : (step_by o k w).answer ≡ refusal (conditions_of o k w)
    unfolding step_by
    step_answer = unless_answer (conditions_of o k w) w (done_by o k w) (done_answer k w)

    pub step_decided : Decided (conditions_of o k w) w (done_by o k w) (step_by o k w)
    unfolding step_by conditions_on
    step_decided = unless_decided (conditions_of o k w) w (done_by o k w) (read_numbered (whole k) w)

    -- a refused one answers the first of the paper's numbers whose condition holds, leaves the world as it was and stores nothing
    pub step_refused : 0 < (step_by o k w).answer
        → First (step_by o k w).answer (conditions_of o k w) × Memᴰ (step_by o k w).answer (refusal_numbers k) × (step_by o k w ≡ refused_with (step_by o k w).answer w)
    step_refused h =
        let r = decided_refused step_decided (done_answer k w) h in
        (r.0, rw (conditions_numbers k w) at (first_number r.0), r.1)

    -- one that answers 0 meets no condition and is carried out
    pub step_done : (step_by o k w).answer ≡ 0 → Clear (conditions_of o k w) × (step_by o k w ≡ done_by o k w)
    step_done = decided_done step_decided

-- ---- a command of the tape: 1, 2 and 3 come before its own conditions
asked_twice : (p : Bool) (n : ℕ) (ts : List (Bool × ℕ)) → refusal ((p, n) ∷ (p, n) ∷ ts) ≡ refusal ((p, n) ∷ ts)
unfolding refusal
asked_twice true n ts = refl
asked_twice false n ts = refl

-- 1, 2 and 3 by themselves
abbrev pub tape_conditions : Bytes → ℕ → World → List (Bool × ℕ)
tape_conditions t at w = (wrong_length w, 1) ∷ (is_unknown (read_at t at), 2) ∷ (is_early (read_at t at), 3) ∷ []

module _ (o : Order) where
  -- every command asks for 1 first, so that the tape has asked for it before changes nothing
  length_first : (k : Command) (w : World) → (ts : List (Bool × ℕ)) × (conditions_of o k w ≡ (wrong_length w, 1) ∷ ts)
  unfolding conditions_of format_conditions write_conditions close_conditions store_conditions checkpoint_conditions retire_conditions cut_conditions recover_conditions_by committed_conditions found_conditions
  length_first (FORMAT c b j) w = (_, refl)
  length_first (WRITE task c b i v) w = (_, refl)
  length_first (CLOSE c) w = (_, refl)
  length_first (STORE c) w = (_, refl)
  length_first (CHECKPOINT c) w = (_, refl)
  length_first CUT w = (_, refl)
  length_first RECOVER w = (_, refl)
  length_first (RETIRE c) w = (_, refl)

  obeyed_unless : (r : Read) (w : World) → unless ((wrong_length w, 1) ∷ []) w (obeyed (step_by o) r w) ≡ unless (conditions_on o r w) w (done_on o r w)
  unfolding obeyed conditions_on done_on step_by unless refusal
  obeyed_unless (whole k) w =
      let f = length_first k w in
      unless_joined ((wrong_length w, 1) ∷ []) (conditions_of o k w) w (done_by o k w) (omega arith, tt)
      ∙ unless_same ((wrong_length w, 1) ∷ conditions_of o k w) (conditions_of o k w) w (done_by o k w) (rw f.1 (asked_twice (wrong_length w) 1 f.0))
  obeyed_unless unknown w = unless_joined ((wrong_length w, 1) ∷ []) ((true, 2) ∷ []) w (refused_with 0 w) (omega arith, tt)
  obeyed_unless early w = unless_joined ((wrong_length w, 1) ∷ []) ((true, 3) ∷ []) w (refused_with 0 w) (omega arith, tt)

  pub command_unless : (t : Bytes) (at : ℕ) (w : World) → step_at_by o t at w ≡ unless (conditions_on o (read_at t at) w) w (done_on o (read_at t at) w)
  unfolding step_at_by command_at
  command_unless t at w = obeyed_unless (read_at t at) w

  read_unless : (r : Read) (w : World)
      → unless ((wrong_length w, 1) ∷ []) w (obeyed (step_by o) r w) ≡ unless ((wrong_length w, 1) ∷ (is_unknown r, 2) ∷ (is_early r, 3) ∷ []) w (obeyed (step_by o) r w)
  unfolding obeyed unless refusal
  read_unless (whole k) w = unless_joined ((wrong_length w, 1) ∷ []) ((false, 2) ∷ (false, 3) ∷ []) w (step_by o k w) (omega arith, tt)
  read_unless unknown w = unless_joined ((wrong_length w, 1) ∷ []) ((true, 2) ∷ (false, 3) ∷ []) w (refused_with 2 w) (omega arith, tt)
  read_unless early w = unless_joined ((wrong_length w, 1) ∷ []) ((false, 2) ∷ (true, 3) ∷ []) w (refused_with 3 w) (omega arith, tt)

  pub tape_unless : (t : Bytes) (at : ℕ) (w : World) → step_at_by o t at w ≡ unless (tape_conditions t at w) w (obeyed (step_by o) (read_at t at) w)
  unfolding step_at_by command_at
  tape_unless t at w = read_unless (read_at t at) w

  -- Demand 1 for one command: the card decides each by its conditions.
  pub command_decided : DecidesEach o (step_at_by o)
  command_decided t at w =
      rw (command_unless t at w) (unless_decided (conditions_on o (read_at t at) w) w (done_on o (read_at t at) w) (read_numbered o (read_at t at) w))

-- reading a block has 1, 20, 22, 6
pub block_numbers : (b : ℕ) (w : World) → map (λ (t : Bool × ℕ). t.1) (read_conditions b w) ≡ 1 ∷ 20 ∷ 22 ∷ 6 ∷ []
unfolding read_conditions
block_numbers b w = refl
