-- A command of the tape: 1, 2 and 3 in their order, and which command it is.
use Rattle.model.proofs.Base.{ℕ, ◌≡◌, refl, sym, ap, ◌∙◌, subst, Bool, true, false, List, [], ◌∷◌, length, Bytes}
use Rattle.model.specs.Command.{World, Outcome, refusal, wrong_length}
use Rattle.model.specs.Write.{write}
use Rattle.model.specs.Valid.{in_sequence}
use Rattle.model.specs.Tape.{block_limit, Read, whole, unknown, early, is_unknown, is_early, obeyed, read_at}
use Rattle.model.specs.Step.{step, step_at}
use Rattle.model.proofs.Command.{tape_conditions, unless_done, tape_unless}
use Rattle.std.specs.Prelude.{Result, Ok, Err}
use Rattle.model.specs.Refusal.{number_of}
use Rattle.model.specs.declared.Refusal.{Refusal}
use Rattle.model.specs.declared.Refusal.TheVariants.{WrongLength}
use Rattle.operands.specs.Decoding.{task_of, command_of, tape_answer, ReadAs}
use Rattle.operands.specs.declared.decoding.Task as task_code
use Rattle.operands.specs.declared.decoding.Command as code
use Rattle.cells.specs.Answer.{Meets}
use Rattle.cells.specs.Cells.{card_in, world, world_in}
use Rattle.model.specs.declared.Card.{Card}
use Rattle.cells.proofs.MeetLaws.{meets_refused, meets_same}

-- ---- each command
module _ (v w : List ℕ) (d₀ m₀ d m : Bytes) (r : Result ℕ Refusal) where
  -- what was done for a command
  abbrev pub Done : code.Command → Type 0
  Done k = Meets (step (command_of k) (world_in v d₀ m₀)) v w d m r

  pub done_as : (j k : code.Command) → Done j → k ≡ j → Done k
  done_as j k f e = subst Done (sym e) f

  -- WRITE, with the limit of its task
  pub write_done : (t : task_code.Task) (c b o : ℕ) (bytes : Bytes) (limit : ℕ) → limit ≡ block_limit (task_of t)
      → Meets (write limit c b o bytes (world_in v d₀ m₀)) v w d m r → Meets (write (block_limit (task_of t)) c b o bytes (world_in v d₀ m₀)) v w d m r
  write_done t c b o bytes limit e f = subst (λ (n : ℕ). Meets (write n c b o bytes (world_in v d₀ m₀)) v w d m r) e f

-- ---- the command at an offset
-- what is read is refused with 2 or 3
read_refusal : (r : Read) → tape_answer r ≡ refusal ((is_unknown r, 2) ∷ (is_early r, 3) ∷ [])
unfolding refusal
read_refusal (whole k) = refl
read_refusal unknown = refl
read_refusal early = refl

module _ (t : Bytes) (at : ℕ) (v : List ℕ) (d m : Bytes) (g : Bool) (e : (x : Card) → g ≡ wrong_length (world x d m)) where
  abbrev w : World
  w = world_in v d m

  refused_at : length v ≡ 423 → (n : Refusal) → number_of n ≡ refusal (tape_conditions t at w) → Meets (step_at t at w) v v d m (Err n)
  refused_at l n q =
      subst (λ (o : Outcome World). Meets o v v d m (Err n)) (sym (tape_unless in_sequence t at w))
      (meets_refused (tape_conditions t at w) v d m _ l n q)

  pub refused_length : g ≡ true → 1 ≡ refusal (tape_conditions t at w)
  unfolding refusal
  refused_length q = rw (← e (card_in v), q)

  pub at_length : length v ≡ 423 → g ≡ true → Meets (step_at t at w) v v d m (Err WrongLength)
  unfolding refusal
  at_length l q = refused_at l WrongLength (rw (← e (card_in v), q))

  module _ (q : g ≡ false) where
    pub read_stage : tape_answer (read_at t at) ≡ refusal (tape_conditions t at w)
    unfolding refusal
    read_stage = rw (← e (card_in v), q) (read_refusal (read_at t at))

    pub at_refused : length v ≡ 423 → (n : Refusal) → ReadAs (read_at t at) (Err n) → (r : Result ℕ Refusal) → r ≡ Err n → Meets (step_at t at w) v v d m r
    at_refused l n a r h = subst (Meets (step_at t at w) v v d m) (sym h) (refused_at l n (a.number ∙ read_stage))

    pub at_done : (k : code.Command) → ReadAs (read_at t at) (Ok k) → (u : List ℕ) (d' m' : Bytes) (r : Result ℕ Refusal)
        → Meets (step (command_of k) w) v u d' m' r → Meets (step_at t at w) v u d' m' r
    unfolding obeyed
    at_done k a u d' m' r f =
        let o : step_at t at w ≡ obeyed step (read_at t at) w =
        tape_unless in_sequence t at w ∙ unless_done (tape_conditions t at w) w _ (sym (a.number ∙ read_stage)) in
        meets_same _ _ v u d' m' r f (sym (o ∙ ap (λ (x : Read). obeyed step x w) (a.found k refl)))
