-- `images::core_shares` meets its contract: the test at each record.
use Rattle.std.proofs.Common.{rules, tests}
use Rattle.std.specs.Prelude.{get_or}
use Rattle.layout.proofs.Ranges.{some_by}
use Rattle.images.specs.Newest.{shares_below, asked_in}
use Rattle.images.proofs.newest.core_shares.Goals as goal

pub returns : goal.returns
returns c = some_by (asked_in (shares_below c.args.set.now.disk.shape c.args.set.now.disk.bytes.now c.args.e) c.args.set.now.extents.now c.args.c (get_or c.args.set.now.runs.start c.args.c 0)) c.any.ensures.ran (λ x b q k. search (rules, tests))
