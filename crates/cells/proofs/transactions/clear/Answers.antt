-- `cells::transactions::clear` meets its contract: its cells filled with zeros.
use Rattle.std.proofs.Common.{arith}
use Rattle.cells.proofs.TransactionLaws.{cleared, cleared_frame}
use Rattle.cells.proofs.transactions.clear.Goals as goal

pub returns : goal.returns
returns c =
    let z = c.fill.ensures.after (λ y e. e) in
    (cleared _ _ _ _ c.told-w c.requires (omega arith) z, cleared_frame _ _ _ _ c.told-w c.requires (omega arith) z)
