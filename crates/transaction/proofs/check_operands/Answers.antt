-- `transaction::check_operands` meets its contract: state and core, block, offset.
use Rattle.transaction.proofs.CommandLaws.{first_entry, first_block, first_offset, first_none}
use borrow.Author.Rules.{rules}
use Rattle.transaction.proofs.check_operands.Goals as goal

pub returns-in_err-check_entry : goal.returns-in_err-check_entry
returns-in_err-check_entry c = search (rules, first_entry)

pub returns-in_err-check_block : goal.returns-in_err-check_block
returns-in_err-check_block c = search (rules, first_block, c.in_ok-check_entry.ensures)

pub returns-then-o-gt-MAX_OFFSET : goal.returns-then-o-gt-MAX_OFFSET
returns-then-o-gt-MAX_OFFSET c = search (rules, first_offset, c.in_ok-check_entry.ensures, c.in_ok-check_block.ensures)

pub returns : goal.returns
returns c = search (rules, first_none, c.in_ok-check_entry.ensures, c.in_ok-check_block.ensures)
