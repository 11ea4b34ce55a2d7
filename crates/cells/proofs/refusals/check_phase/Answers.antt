-- `cells::refusals::check_phase` meets its contract: the length, then the phase.
use mathlib.Core.Path.{sym, ◌∙◌}
use Rattle.cells.specs.Answer.{by_phase, phase_refusal}
use Rattle.cells.proofs.refusals.check_phase.Goals as goal

pub returns-then-wrong_length : goal.returns-then-wrong_length
unfolding phase_refusal by_phase
returns-then-wrong_length c = rw (← c.wrong_length.ensures _, c.if-wrong_length.true)

pub returns-in-Blank : goal.returns-in-Blank
unfolding phase_refusal by_phase
returns-in-Blank c = rw (← c.wrong_length.ensures _, c.if-wrong_length.false, sym c.phase_of.ensures ∙ c.in-Blank.is)

pub returns-in-Up : goal.returns-in-Up
unfolding phase_refusal by_phase
returns-in-Up c = rw (← c.wrong_length.ensures _, c.if-wrong_length.false, sym c.phase_of.ensures ∙ c.in-Up.is)

pub returns-in-Down : goal.returns-in-Down
unfolding phase_refusal by_phase
returns-in-Down c = rw (← c.wrong_length.ensures _, c.if-wrong_length.false, sym c.phase_of.ensures ∙ c.in-Down.is)
