-- `transaction::write` meets its contract: refused, or what comes of its rule.
use native.Mathlib.Omega.{arith}
use Rattle.transaction.proofs.CommandLaws.{passed, first_refused}
use borrow.Author.Rules.{rules}
use Rattle.transaction.proofs.write.Goals as goal

pub returns-in_err-check_operands : goal.returns-in_err-check_operands
returns-in_err-check_operands c = search (rules, first_refused)

pub overflow_cast-block : goal.overflow_cast-block
overflow_cast-block c = omega (arith, (passed _ _ _ _ _ _ c.in_ok-check_operands.ensures).within.block)

pub write_ruled-requires : goal.write_ruled-requires
write_ruled-requires c = passed _ _ _ _ _ _ c.in_ok-check_operands.ensures
