-- `firmware::session::read_part` meets its contract: the same part, or the refusal's number, in wider fields.
use Rattle.firmware.proofs.RunLaws.{part_there, part_nowhere}
use borrow.Author.Rules.{rules}
use Rattle.firmware.proofs.session.read_part.Goals as goal

pub returns-in-Ok : goal.returns-in-Ok
returns-in-Ok c = search (rules, part_there, c.in-Ok.ensures)

pub returns-in-Err : goal.returns-in-Err
returns-in-Err c = search (rules, part_nowhere, c.in-Err.ensures)
