-- `cells::transactions::is_live` meets its contract.
use Rattle.cells.proofs.ReadLaws.{live_read}
use Rattle.cells.proofs.transactions.is_live.Goals as goal

pub returns : goal.returns
returns c = live_read _ _
