-- `valid::tail_numbers` meets its contract: the number of each tail.
use borrow.Author.Rules.{rules}
use Rattle.model.specs.Card.{new_tail}
use Rattle.valid.proofs.Lowering.{all_numbers}
use Rattle.valid.proofs.shrinking.tail_numbers.Goals as goal

pub returns : goal.returns
returns c = all_numbers _ _ c.map.ensures.items.long (λ i h. let r = c.map.ensures.items.at i (new_tail 0 0) 0 h in search rules)
