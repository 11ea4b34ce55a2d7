-- `firmware::session::copy_block` meets its contract: refused, or the block copied.
use Rattle.std.proofs.Common.{◌≡◌, length, sym, ◌∙◌}
use Rattle.cells.specs.Cells.{card_in}
use Rattle.firmware.proofs.RunLaws.{into_none, into_block, copy_long}
use borrow.Author.Rules.{rules}
use Rattle.firmware.proofs.session.copy_block.Goals as goal

pub returns-then-n-ne0 : goal.returns-then-n-ne0
returns-then-n-ne0 c = (search rules, search (rules, into_none))

pub copy_from_slice-requires : goal.copy_from_slice-requires
copy_from_slice-requires c = let l : length c.read_block-block.result.now ≡ 128 = search (rules, copy_long) in c.told-out ∙ sym l

pub returns : goal.returns
returns c = (sym c.if-n-ne0.false ∙ c.read_number-n.ensures, into_block (card_in c.args.w.now) _ _ _ _ _ (c.copy_from_slice.ensures.after ∙ c.read_block-block.ensures))
