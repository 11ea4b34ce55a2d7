-- `cells::holders::is_held` meets its contract.
use mathlib.Core.Path.{ap, ◌∙◌}
use Rattle.model.specs.Card.{is_held}
use Rattle.cells.proofs.holders.is_held.Goals as goal

pub returns : goal.returns
returns c = c.is_some.ensures ∙ ap is_held c.holder_at.ensures.0
