-- `transaction::image::put_bytes` meets its contract: four bytes set one after another are a part replaced.
use native.Mathlib.Omega.{arith}
use lib.ListN.{length-set}
use Rattle.transaction.proofs.CommandLaws.{four_put}
use borrow.Author.Rules.{rules}
use Rattle.transaction.proofs.image.put_bytes.Goals as goal

pub bounds-memory-at-2 : goal.bounds-memory-at-2
bounds-memory-at-2 c = simp length-set (omega arith)

pub bounds-memory-at-3 : goal.bounds-memory-at-3
bounds-memory-at-3 c = simp length-set (omega arith)

pub bounds-memory-at-4 : goal.bounds-memory-at-4
bounds-memory-at-4 c = simp length-set (omega arith)

pub returns : goal.returns
returns c = four_put _ _ _ (search rules) (search rules)
