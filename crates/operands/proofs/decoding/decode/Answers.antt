-- `operands::decoding::decode` meets its contract: one law for each command.
use native.Mathlib.Omega.{arith}
use mathlib.Core.Logic.{inl, inr}
use borrow.Author.Rules.{rules}
use Rattle.operands.proofs.DecodingLaws.{write_long, write_decoded, report_decoded, format_decoded, close_decoded, store_decoded, checkpoint_decoded, cut_decoded, recover_decoded, retire_decoded}
use Rattle.operands.proofs.decoding.decode.Goals as goal

pub decode_write-requires : goal.decode_write-requires
decode_write-requires c = write_long c.args.operands.now c.args.byte c.requires.2 (inl c.in-2.is)

pub decode_write-requires-in_default : goal.decode_write-requires-in_default
decode_write-requires-in_default c = write_long c.args.operands.now c.args.byte c.requires.2 (inr (omega arith))

pub returns-in-1 : goal.returns-in-1
returns-in-1 c = search (rules, format_decoded)

pub returns-in-2 : goal.returns-in-2
returns-in-2 c = search (rules, write_decoded)

pub returns-in-3 : goal.returns-in-3
returns-in-3 c = search (rules, close_decoded)

pub returns-in-4 : goal.returns-in-4
returns-in-4 c = search (rules, store_decoded)

pub returns-in-5 : goal.returns-in-5
returns-in-5 c = search (rules, checkpoint_decoded)

pub returns-in-6 : goal.returns-in-6
returns-in-6 c = search (rules, cut_decoded)

pub returns-in-7 : goal.returns-in-7
returns-in-7 c = search (rules, recover_decoded)

pub returns-in-8 : goal.returns-in-8
returns-in-8 c = search (rules, retire_decoded)

pub returns-in_default : goal.returns-in_default
returns-in_default c = report_decoded c.args.byte c.args.operands.now _ c.decode_write-in_default.ensures (omega arith)
