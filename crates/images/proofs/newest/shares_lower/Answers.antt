-- `images::shares_lower` meets its contract: the test at each core.
use Rattle.std.proofs.Common.{rules, tests}
use Rattle.layout.proofs.Ranges.{some_by}
use Rattle.images.specs.Newest.{shares_below}
use Rattle.images.proofs.Steps.{asked_core}
use Rattle.images.proofs.Shared.{shares_is}
use Rattle.images.proofs.newest.shares_lower.Goals as goal

pub returns : goal.returns
returns c = shares_is _ _ _ _ _ _ _ (some_by (asked_core (shares_below c.args.set.disk.shape c.args.set.disk.bytes.now c.args.e) c.args.set.extents.now c.args.set.runs.start c.args.set.runs.count) c.any.ensures.ran (λ x b q k. search (rules, tests)))
