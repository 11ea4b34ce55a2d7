-- `images::share_in` meets its contract: the test at each block of the descriptor.
use Rattle.std.proofs.Common.{rules, tests}
use Rattle.std.proofs.lemmas.Iterator.{serves_from_Range}
use Rattle.layout.proofs.Ranges.{some_by}
use Rattle.layout.proofs.Narrow.{block_below}
use Rattle.images.proofs.Shared.{took_at, share_is}
use Rattle.images.proofs.newest.share_in.Goals as goal

pub any-requires-clause-callable : goal.any-requires-clause-callable
any-requires-clause-callable c = serves_from_Range (λ x q k. search rules) (λ x h l. search (rules, block_below))

pub returns : goal.returns
returns c = share_is _ _ _ _ _ _ (some_by (took_at c.args.disk.shape c.args.disk.bytes.now c.args.f c.args.block.now) c.any.ensures.ran (λ x b q k. search (rules, tests)))
