-- `master_block::write_master` meets its contract: its words are those of the master.
use Rattle.std.proofs.Common.{rules}
use Rattle.model.specs.Layout.{master_block}
use Rattle.master_block.specs.Tails.{master_from}
use Rattle.layout.proofs.Blocks.{words_written}
use Rattle.master_block.proofs.Writers.{length_master}
use Rattle.master_block.proofs.write_master.Goals as goal

pub returns : goal.returns
unfolding master_block master_from
returns c =
    let w = c.write_words.ensures in
    words_written _ _ (length_master c.args.s c.args.tails) w.0 w.1 w.2 (λ i h. let p = w.3 i h in search rules)
