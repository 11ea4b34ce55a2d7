-- `command::counted_command` meets its contract: the count is read before, and put after.
use Rattle.command.proofs.CountLaws.{performs}
use Rattle.model.specs.Tape.{command_byte}
use borrow.Author.Rules.{rules}
use Rattle.command.proofs.counted_command.Goals as goal

pub returns : goal.returns
unfolding command_byte
returns c = (search (rules, performs), search rules, search rules)
