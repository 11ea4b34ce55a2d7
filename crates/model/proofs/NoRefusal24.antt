-- Paper 02, (d): 'Refusal 24 can no longer occur, and this is shown.' No command answers it, on any card value, any slices and any tape. And
-- why: a commit names at most one transaction for each core, so a record has room for every name.
use Prim.Native.Nat.{ℕ, ◌≤◌}
use native.Mathlib.Omega.{arith}
use mathlib.Core.Path.{◌≡◌, refl, sym, ap, ◌∙◌, subst}
use mathlib.Core.Logic.{◌≢◌}
use mathlib.Core.Bool.{Bool, true, not, true≢false, ◌&&◌}
use mathlib.Core.List.{List, map, Memᴰ}
use lib.ListN.{length}
use lib.Dec.{eqb, leb}
use borrow.Author.Tests.{eq-eqb}
use Rattle.model.specs.Lists.{all}
use Rattle.model.specs.Bytes.{Bytes}
use Rattle.model.specs.Card.{highest_of}
use Rattle.model.specs.Layout.{has_head, stamp_in, number_named, names_from, names_in, few_names, is_listable, is_commit}
use Rattle.model.specs.Command.{World, Outcome, Decided, refused, carried_out}
use Rattle.model.specs.Tape.{Command, FORMAT, WRITE, CLOSE, STORE, CHECKPOINT, CUT, RECOVER, RETIRE, Read, whole, unknown, early, read_at}
use Rattle.model.specs.Valid.{Order}
use Rattle.model.specs.Step.{step_by, step_at_by}
use Rattle.model.specs.declared.Shape.{Shape}
use Rattle.model.specs.declared.Transaction.{Transaction}
use Rattle.model.specs.declared.CommitLayout.TheVariants.{Numbers}
use Rattle.model.proofs.Lists.{all_mem, and_right}
use Rattle.model.proofs.Highest.{names_few}
use Rattle.model.proofs.Named.{listable_numbers}
use Rattle.model.proofs.Command.{first_number, refusal_numbers, read_numbers, conditions_numbers, read_numbers_lem, done_answer, read_answer, step_decided, command_decided}

-- ---- no command answers 24
other_numbers : (r : Read) → all (λ (n : ℕ). not (eqb n 24)) (read_numbers r) ≡ true
unfolding read_numbers refusal_numbers all
other_numbers (whole (FORMAT c b j)) = refl
other_numbers (whole (WRITE task c b o v)) = refl
other_numbers (whole (CLOSE c)) = refl
other_numbers (whole (STORE c)) = refl
other_numbers (whole (CHECKPOINT c)) = refl
other_numbers (whole CUT) = refl
other_numbers (whole RECOVER) = refl
other_numbers (whole (RETIRE c)) = refl
other_numbers unknown = refl
other_numbers early = refl

number_other : (r : Read) (n : ℕ) → Memᴰ n (read_numbers r) → n ≢ 24
number_other r n m e =
    let t : not (eqb n 24) ≡ true = all_mem (λ (n : ℕ). not (eqb n 24)) (read_numbers r) (other_numbers r) m in
    let f : not (eqb n 24) ≡ not true = ap not (eq-eqb n 24 e) in
    absurd (true≢false (sym t ∙ f))

decided_never : (r : Read) {ts : List (Bool × ℕ)} {w : World} {done x : Outcome World} → map (λ (t : Bool × ℕ). t.1) ts ≡ read_numbers r → done.answer ≡ 0
    → Decided ts w done x → x.answer ≢ 24
decided_never r {ts} {w} {done} {x} e z (refused n p f o) h =
    let a : x.answer ≡ n = ap (λ (x : Outcome World). x.answer) o in
    number_other r n (subst (Memᴰ n) e (first_number f)) (sym a ∙ h)
decided_never r {ts} {w} {done} {x} e z (carried_out c o) h =
    let a : x.answer ≡ 0 = ap (λ (x : Outcome World). x.answer) o ∙ z in
    absurd (omega (arith, a, h))

module _ (o : Order) where
  pub step_never_24 : (k : Command) (w : World) → (step_by o k w).answer ≢ 24
  unfolding read_numbers
  step_never_24 k w = decided_never (whole k) (conditions_numbers o k w) (done_answer o k w) (step_decided o k w)

  pub never_24 : (t : Bytes) (at : ℕ) (w : World) → (step_at_by o t at w).answer ≢ 24
  never_24 t at w = decided_never (read_at t at) (read_numbers_lem o (read_at t at) w) (read_answer o (read_at t at) w) (command_decided o t at w)

-- ---- and its reason
-- a commit that is read names at most C transactions
pub commit_few : (s : Shape) (k : ℕ) (b : Bytes) → is_commit Numbers s k b ≡ true → length (names_in Numbers b) ≤ s.cores
unfolding is_commit names_in
commit_few s k b h =
    let l : all (is_listable s) (names_from (number_named b)) ≡ true = and_right (has_head 2 k b && leb 1 (stamp_in b) && few_names Numbers b) _ h in
    names_few (number_named b) s.cores (λ c g i. listable_numbers s (number_named b) l c i g)

-- the names of a transaction, which its commit takes over: never more than there is room for
pub names_at_most : (t : Transaction) → length (names_from (highest_of t)) ≤ 8
names_at_most t = names_few (highest_of t) 8 (λ c g l. absurd (omega (arith, g, l)))
