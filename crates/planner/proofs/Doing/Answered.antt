-- A command of a card that is up, as the ledger has it: when it is answered 0, and what it is then.
use Prim.Native.Nat.{ℕ}
use mathlib.Core.Path.{◌≡◌, sym, ◌∙◌, subst}
use Rattle.model.specs.Command.{World, Outcome, refusal}
use Rattle.model.specs.Valid.{in_sequence}
use Rattle.model.specs.Step.{done_by, step}
use Rattle.model.specs.Tape.{Command, CLOSE, STORE}
use Rattle.model.proofs.Command.{step_answer, step_done}
use Rattle.crash.specs.Ledger.{Ledger, refusals_of}
use Rattle.crash.proofs.Commands.PhaseAnswers.{up_answers}
use Rattle.crash.proofs.Runs.UpSteps.{RelatedUp, holder_open}
use Rattle.crash.proofs.Runs.Unrefused.{MayClose, MayStore, close_unrefused, store_unrefused}

-- what holds of a command carried out holds of it where it is answered 0
pub when_done : (P : Outcome World → Type 0) (k : Command) (w : World) → (step k w).answer ≡ 0 → P (done_by in_sequence k w) → P (step k w)
when_done P k w h p = subst P (sym (step_done in_sequence k w h).1) p

module _ {l : Ledger} {w : World} (u : RelatedUp l w) where
  -- by the ledger's conditions
  pub answer_is : (k : Command) → (step k w).answer ≡ refusal (refusals_of k l)
  answer_is k = step_answer in_sequence k w ∙ up_answers u.up (holder_open u) k

  -- so where it is answered 0, none of them holds
  pub unrefused : (k : Command) → (step k w).answer ≡ 0 → refusal (refusals_of k l) ≡ 0
  unrefused k h = sym (answer_is k) ∙ h

  pub close_answered : (c : ℕ) → MayClose l c → (step (CLOSE c) w).answer ≡ 0
  unfolding refusals_of
  close_answered c m = answer_is (CLOSE c) ∙ close_unrefused u c m

  pub store_answered : (c : ℕ) → MayStore l c → (step (STORE c) w).answer ≡ 0
  unfolding refusals_of
  store_answered c m = answer_is (STORE c) ∙ store_unrefused u c m
