-- `command::obey` meets its contract: slices of a wrong length, what is read refused, or the command read.
use borrow.Author.Rules.{rules}
use Rattle.command.proofs.TapeLaws.{at_length, at_refused, at_done}
use Rattle.command.proofs.obey.Goals as goal

pub returns-then-wrong_length : goal.returns-then-wrong_length
returns-then-wrong_length c = at_length _ _ c.args.w.now _ _ _ c.wrong_length.ensures c.told-w c.if-wrong_length.true

pub returns-in_err-command : goal.returns-in_err-command
returns-in_err-command c = at_refused _ _ c.args.w.now _ _ _ c.wrong_length.ensures c.if-wrong_length.false c.told-w _ c.in_err-command.ensures _ (search rules)

pub returns : goal.returns
returns c = at_done _ _ _ _ _ _ c.wrong_length.ensures c.if-wrong_length.false _ c.in_ok-command.ensures _ _ _ _ c.perform.ensures
