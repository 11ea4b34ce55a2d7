-- `layout::is_listed` meets its contract: some name is one of the core.
use Rattle.std.proofs.Common.{rules, tests}
use Rattle.layout.specs.Named.{is_of_core}
use Rattle.layout.proofs.Ranges.{some_by}
use Rattle.layout.proofs.Counting.{core_same}
use Rattle.layout.proofs.commit_block.is_listed.Goals as goal

pub returns : goal.returns
returns c = some_by (is_of_core c.args.block.now c.args.c) c.any.ensures.ran (λ x b q k. search (rules, tests, core_same))
