-- `checkpoint::stores::count_home` meets its contract.
use mathlib.Core.Path.{ap, ◌∙◌}
use Rattle.model.specs.Card.{core_of, with_core}
use Rattle.cells.specs.Cells.{card_in}
use Rattle.checkpoint.proofs.StoreLaws.{core_homed}
use Rattle.checkpoint.proofs.stores.count_home.Goals as goal

pub returns : goal.returns
returns c =
    let x = card_in c.args.w.now in
    (c.put_numbers.ensures.0 ∙ ap (with_core x c.args.c) (core_homed (core_of x c.args.c) _ c.numbers_at-k.ensures _ c.requires.2), c.put_numbers.ensures.1)
