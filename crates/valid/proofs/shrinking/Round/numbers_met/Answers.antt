-- `valid::Round::numbers_met` meets its contract: the test at each core.
use Rattle.std.proofs.Common.{rules, tests}
use Rattle.layout.proofs.Ranges.{every_by}
use Rattle.valid.specs.Sets.{number_met}
use Rattle.valid.proofs.shrinking.Round.numbers_met.Goals as goal

pub returns : goal.returns
returns c = every_by (number_met c.args.self.now.records.disk.shape c.args.self.now.oldest c.args.self.now.records.runs.count c.args.commit.now) c.all.ensures.ran (λ x b q k. search (rules, tests))
