-- `cells::refusals::wrong_length` meets its contract: the two lengths in turn.
use borrow.Author.Rules.{rules}
use Rattle.model.specs.Command.{wrong_length}
use Rattle.cells.proofs.Parts.{tests}
use Rattle.cells.proofs.refusals.wrong_length.Goals as goal

pub returns-then-disk-ne-DISK_SIZE : goal.returns-then-disk-ne-DISK_SIZE
unfolding wrong_length
returns-then-disk-ne-DISK_SIZE c = λ x. search (rules, tests)

pub returns : goal.returns
unfolding wrong_length
returns c = λ x. search (rules, tests)
