-- `close::copies::flags_of` meets its contract: the flag of each copy.
use Rattle.std.proofs.Common.{rules}
use Rattle.layout.proofs.Ranges.{table_by}
use Rattle.close.proofs.CloseLaws.{copy_flag}
use Rattle.close.proofs.copies.flags_of.Goals as goal

pub returns : goal.returns
returns c = table_by _ (copy_flag c.args.c c.args.memory.now) _ _ _ c.from_fn.ensures.items (λ i y q k. search rules)
