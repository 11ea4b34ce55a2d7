-- `oldest::committed::counts` meets its contract. Invariant: the first c counts are made.
use Prim.Native.Nat.{◌≤◌}
use Rattle.layout.proofs.Loops.{Filled}
use Rattle.cells.specs.Cells.{card_in}
use Rattle.oldest.specs.Oldest.{count_at}
use Rattle.oldest.proofs.committed.counts.Given as goal

abbrev pub invariant-loop-c : goal.invariant-loop-c
invariant-loop-c l = (l.c-end ≤ 8) × Filled (count_at (card_in l.w)) 8 l.most l.c
