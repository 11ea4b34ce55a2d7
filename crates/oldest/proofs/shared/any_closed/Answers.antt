-- `oldest::shared::any_closed` meets its contract: the test at each core.
use Rattle.std.proofs.Common.{rules, tests}
use Rattle.layout.proofs.Ranges.{some_by}
use Rattle.cells.specs.Cells.{card_in}
use Rattle.oldest.specs.Oldest.{closed_lower}
use Rattle.oldest.proofs.shared.any_closed.Goals as goal

pub returns : goal.returns
returns c = some_by (closed_lower (card_in c.args.w.now) c.args.disk.shape c.args.disk.bytes.now c.args.e) c.any.ensures.ran (λ x b q k. search (rules, tests))
