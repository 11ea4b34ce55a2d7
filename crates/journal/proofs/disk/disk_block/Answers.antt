-- `journal::disk_block` meets its contract: behind master, home area and the journals of lower cores.
use native.Mathlib.Omega.{arith}
use borrow.Author.Rules.{rules}
use Rattle.journal.proofs.OneRecord.{block_is, row_low, position_low}
use Rattle.journal.proofs.disk.disk_block.Goals as goal

pub returns : goal.returns
returns c =
    let l = c.requires.0 in
    (search (rules, block_is), omega (arith, row_low _ _ l c.requires.1, l.few_blocks, position_low _ _ _ l c.around.ensures))
