-- `layout::write_descriptor` meets its contract: its words are those of the descriptor.
use Rattle.std.proofs.Common.{rules}
use Rattle.model.specs.Layout.{descriptor_block}
use Rattle.layout.specs.Words.{descriptor_from, tags_from}
use Rattle.layout.proofs.Blocks.{words_written}
use Rattle.layout.proofs.Pairs.{length_descriptor}
use Rattle.layout.proofs.descriptor_block.write_descriptor.Goals as goal

pub returns : goal.returns
unfolding descriptor_block descriptor_from tags_from
returns c =
    let w = c.write_words.ensures in
    words_written _ _ (length_descriptor c.args.number c.args.count c.args.blocks c.args.flags) w.0 w.1 w.2 (λ i h. let p = w.3 i h in search rules)
