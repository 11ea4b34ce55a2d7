-- `oldest::shared::shares_closed` meets its contract: the test at each block.
use Rattle.std.proofs.Common.{rules, tests}
use Rattle.std.proofs.Common.{◌∙◌}
use Rattle.layout.proofs.Ranges.{some_by}
use Rattle.model.specs.Card.{taken}
use Rattle.model.specs.Journal.{blocks_of}
use Rattle.cells.specs.Cells.{transaction_in}
use Rattle.oldest.proofs.SharedLaws.{shares_at, shares_all}
use Rattle.oldest.proofs.shared.shares_closed.Goals as goal

pub returns : goal.returns
returns c = some_by (shares_at (blocks_of c.args.disk.shape c.args.disk.bytes.now c.args.e) (taken (transaction_in c.args.w.now c.args.at))) c.any.ensures.ran (λ x b q k. search (rules, tests)) ∙ shares_all _ _ _ _
