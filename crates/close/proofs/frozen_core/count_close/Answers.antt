-- `close::frozen_core::count_close` meets its contract.
use Rattle.std.proofs.Common.{ap, ◌∙◌, ◌+◌, ◌%◌, ◌^◌}
use Rattle.model.specs.Card.{core_of, with_core}
use Rattle.cells.specs.declared.cores.CoreNumbers.{CoreNumbers}
use Rattle.cells.specs.Cells.{card_in}
use Rattle.cells.specs.Changes.{with_numbers}
use Rattle.close.proofs.frozen_core.count_close.Goals as goal

pub returns : goal.returns
returns c =
    let x = card_in c.args.w.now in
    let k = core_of x c.args.c in
    (c.put_numbers.ensures.0 ∙ ap (λ (n : CoreNumbers). with_core x c.args.c (with_numbers k ((n.next + 1) % 2 ^ 32) n.used 0 n.homed)) c.numbers_at-k.ensures, c.put_numbers.ensures.1)
