-- `layout::write_commit` meets its contract: its words are those of the commit.
use Rattle.std.proofs.Common.{rules}
use Rattle.model.specs.Layout.{commit_block}
use Rattle.layout.proofs.Blocks.{words_written}
use Rattle.layout.proofs.Pairs.{length_commit}
use Rattle.layout.proofs.commit_block.write_commit.Goals as goal

pub returns : goal.returns
unfolding commit_block
returns c =
    let w = c.write_words.ensures in
    words_written _ _ (length_commit _ _ _) w.0 w.1 w.2 (λ i h. let p = w.3 i h in search rules)
