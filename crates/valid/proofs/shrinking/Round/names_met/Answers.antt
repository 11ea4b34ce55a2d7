-- `valid::Round::names_met` meets its contract: the test at each name.
use Rattle.std.proofs.Common.{rules, tests}
use Rattle.layout.proofs.Ranges.{every_by}
use Rattle.valid.specs.Sets.{name_met}
use Rattle.valid.proofs.shrinking.Round.names_met.Goals as goal

pub returns : goal.returns
returns c = every_by (name_met c.args.self.now.records.disk.shape c.args.self.now.oldest c.args.self.now.records.runs.count c.args.commit.now) c.all.ensures.ran (λ x b q k. search (rules, tests))
