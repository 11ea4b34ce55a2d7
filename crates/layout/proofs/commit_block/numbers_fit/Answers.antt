-- `layout::numbers_fit` meets its contract: each number meets the test.
use Rattle.std.proofs.Common.{rules, tests}
use Rattle.layout.specs.Named.{number_fits}
use Rattle.layout.proofs.Ranges.{every_by}
use Rattle.layout.proofs.commit_block.numbers_fit.Goals as goal

pub returns : goal.returns
returns c = every_by (number_fits c.args.s c.args.block.now) c.all.ensures.ran (λ x b q k. search (rules, tests))
