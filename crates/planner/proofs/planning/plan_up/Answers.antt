-- `planner::planning::plan_up` meets its contract: the works of all cores are those of the unretired transactions.
use borrow.Author.Rules.{rules}
use Rattle.std.specs.Prelude.{◌≡◌}
use Rattle.journal.proofs.Whole.{whole_is}
use Rattle.planner.proofs.CodeLaws.UnretiredLaws.{read_sized}
use Rattle.planner.proofs.CodeLaws.AnswerLaws.{answer_up}
use Rattle.planner.proofs.planning.plan_up.Goals as goal

pub take_all-requires : goal.take_all-requires
take_all-requires c = search (rules, read_sized)

pub returns : goal.returns
returns c =
    let same : c.unwrap.result.now ≡ c.args.disk.now = whole_is _ _ _ _ c.try_into.ensures.1 _ c.unwrap.ensures in
    let read = rw same at c.read_committed-all.ensures in
    search (rules, answer_up, read)
