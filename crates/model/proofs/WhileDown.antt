-- A card that is down carries out CUT and RECOVER alone: what holds of these two and of every refusal holds of every command on a tape.
use Prim.Native.Nat.{ℕ, suc}
use mathlib.Core.Path.{◌≡◌, refl, sym, ap, ◌∙◌}
use mathlib.Core.Bool.{true, false, not, true≢false, false≢true}
use Rattle.model.specs.Bytes.{Bytes, zero_memory}
use Rattle.model.specs.Card.{is_blank, is_up, is_down, down_card}
use Rattle.model.specs.Valid.{Order}
use Rattle.model.specs.Command.{World, Outcome, Clear, refused_with, unstored}
use Rattle.model.specs.Tape.{Command, FORMAT, WRITE, CLOSE, STORE, CHECKPOINT, CUT, RECOVER, RETIRE, Read, whole, unknown, early, read_at}
use Rattle.model.specs.Format.{format_conditions}
use Rattle.model.specs.Write.{write_conditions}
use Rattle.model.specs.Commit.{close_conditions, store_conditions}
use Rattle.model.specs.Checkpoint.{checkpoint_conditions, retire_conditions, found_conditions, committed_conditions}
use Rattle.model.specs.Recovery.{recover_conditions, recovered}
use Rattle.model.specs.Step.{step_at_by, conditions_of, done_by, conditions_on, done_on}
use Rattle.model.specs.declared.Phase.{Phase}
use Rattle.model.specs.declared.Phase.TheVariants.{Blank, Up, Down}
use Rattle.model.proofs.Command.{command_decided}
use Rattle.model.proofs.OlderDisk.{by_decision}

pub down_not_blank : (p : Phase) → is_down p ≡ true → is_blank p ≡ false
down_not_blank Blank h = absurd (false≢true h)
down_not_blank Up h = refl
down_not_blank Down h = refl

pub down_not_up : (p : Phase) → is_down p ≡ true → is_up p ≡ false
down_not_up Blank h = refl
down_not_up Up h = absurd (false≢true h)
down_not_up Down h = refl

module _ (o : Order) (w : World) (down : is_down w.card.phase ≡ true) (P : Outcome World → Type 0) (refused : (n : ℕ) → P (refused_with n w))
    (cut : P (unstored w down_card zero_memory)) (recovers : Clear (recover_conditions w) → P (recovered o w)) where
  done_down : (k : Command) → Clear (conditions_of o k w) → P (done_by o k w)
  unfolding conditions_of done_by format_conditions write_conditions close_conditions store_conditions checkpoint_conditions retire_conditions committed_conditions found_conditions
  done_down (FORMAT c b j) cl = absurd (true≢false (ap not (sym (down_not_blank w.card.phase down)) ∙ cl.1.0))
  done_down (WRITE task c b i v) cl = absurd (true≢false (sym down ∙ cl.1.1.0))
  done_down (CLOSE c) cl = absurd (true≢false (sym down ∙ cl.1.1.0))
  done_down (STORE c) cl = absurd (true≢false (sym down ∙ cl.1.1.0))
  done_down (CHECKPOINT c) cl = absurd (true≢false (sym down ∙ cl.1.1.0))
  done_down CUT cl = cut
  done_down RECOVER cl = recovers cl
  done_down (RETIRE c) cl = absurd (true≢false (sym down ∙ cl.1.1.0))

  read_down : (r : Read) → Clear (conditions_on o r w) → P (done_on o r w)
  unfolding conditions_on done_on
  read_down (whole k) cl = done_down k cl
  read_down unknown cl = absurd (true≢false cl.1.0)
  read_down early cl = absurd (true≢false cl.1.0)

  pub while_down : (t : Bytes) (at : ℕ) → P (step_at_by o t at w)
  while_down t at = by_decision P (command_decided o t at w) (λ n. refused (suc n)) (read_down (read_at t at))
