-- `operands::decoding::read_command` meets its contract: unknown, early, or the command of the byte and the operands behind it.
use native.Mathlib.Omega.{arith}
use mathlib.Core.Path.{refl}
use borrow.Author.Rules.{rules}
use Rattle.operands.proofs.DecodingLaws.{read_unknown, read_early, byte_low, byte_high, operands_end, operands_long, read_there}
use Rattle.operands.proofs.decoding.read_command.Goals as goal

pub returns-then-is_unknown : goal.returns-then-is_unknown
returns-then-is_unknown c = search (rules, read_unknown)

pub returns-then-ends_early : goal.returns-then-ends_early
returns-then-ends_early c = search (rules, read_early)

pub overflow_add-from : goal.overflow_add-from
overflow_add-from c =
    omega (arith, operands_end _ _ _ c.is_unknown.ensures c.if-is_unknown.false _ c.ends_early.ensures c.if-ends_early.false _ c.byte_at-byte.ensures _ refl)

pub overflow_add-to : goal.overflow_add-to
overflow_add-to c =
    omega (arith, operands_end _ _ _ c.is_unknown.ensures c.if-is_unknown.false _ c.ends_early.ensures c.if-ends_early.false _ c.byte_at-byte.ensures _ c.operand_length.ensures.0)

pub slice_bounds-decode-end : goal.slice_bounds-decode-end
slice_bounds-decode-end c = search (rules, operands_end)

pub decode-requires : goal.decode-requires
decode-requires c = (search (rules, byte_low), search (rules, byte_high), search (rules, operands_long))

pub returns : goal.returns
returns c = search (rules, read_there)
