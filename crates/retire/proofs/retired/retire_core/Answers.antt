-- `retire::retired::retire_core` meets its contract.
use mathlib.Core.Path.{ap, ◌∙◌}
use Rattle.model.specs.Card.{core_of, with_core}
use Rattle.cells.specs.Cells.{card_in}
use Rattle.retire.proofs.RetireLaws.{core_retired}
use Rattle.retire.proofs.retired.retire_core.Goals as goal

pub returns : goal.returns
returns c =
    let x = card_in c.args.w.now in
    (c.put_numbers.ensures.0 ∙ ap (with_core x c.args.c) (core_retired (core_of x c.args.c) _ c.numbers_at-k.ensures c.args.e _ c.blocks_left-used.ensures), c.put_numbers.ensures.1)
