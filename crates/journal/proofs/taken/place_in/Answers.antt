-- `journal::place_in` meets its contract: the first of the blocks passed that is the one sought.
use Rattle.std.proofs.Common.{rules, tests, refl, arith}
use Rattle.std.proofs.lemmas.Iterator.{YieldsList-from_range, serves_from_Range}
use Rattle.std.proofs.lemmas.Iterator.Search.{position_from_yields_List}
use Rattle.layout.proofs.Narrow.{block_below}
use Rattle.journal.proofs.Blocks.{is_block, place_found}
use Rattle.journal.proofs.taken.place_in.Goals as goal

pub position-requires-clause-callable : goal.position-requires-clause-callable
position-requires-clause-callable c = serves_from_Range (λ x q k. search rules) (λ x h l. search (rules, block_below))

pub returns : goal.returns
returns c =
    place_found _ _ _ _ (position_from_yields_List (is_block c.args.block.now c.args.b) _ _ _ c.position.ensures.ran (YieldsList-from_range 0 c.args.n c.args.n refl (omega arith)) (λ x b q k. search (rules, tests)))
