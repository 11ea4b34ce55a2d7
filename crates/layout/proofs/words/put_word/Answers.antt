-- `layout::put_word` meets its contract: the part of four bytes is replaced by those of the number.
use Rattle.layout.proofs.Blocks.{word_put}
use Rattle.layout.proofs.words.put_word.Goals as goal

pub returns : goal.returns
returns c = word_put c.args.b.now c.args.at c.args.w _ _ c.copy_from_slice.ensures.after c.to_be_bytes.ensures
