-- `cells::tails::tails_of` meets its contract: the tail of each core.
use Rattle.std.proofs.Common.{rules, ◌∙◌}
use Rattle.model.specs.Card.{tail_of}
use Rattle.layout.proofs.Ranges.{table_by}
use Rattle.cells.specs.Cells.{card_in}
use Rattle.cells.proofs.TailLaws.{all_tails}
use Rattle.cells.proofs.tails.tails_of.Goals as goal

pub returns : goal.returns
returns c = table_by _ (tail_of (card_in c.args.w.now)) _ _ _ c.from_fn.ensures.items (λ i y q k. search rules) ∙ all_tails _
