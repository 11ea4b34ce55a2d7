-- `close::copies::copy_images` meets its contract. Invariant: the copies still to be made from here lead to the same memory.
use Rattle.std.proofs.Common.{◌≡◌, ◌≤◌, length, drop}
use Rattle.model.specs.Card.{taken}
use Rattle.model.specs.Commit.{copied}
use Rattle.cells.specs.Cells.{transaction_in}
use Rattle.close.proofs.copies.copy_images.Given as goal

abbrev pub invariant-loop-i : goal.invariant-loop-i
invariant-loop-i l = (l.count ≡ length (taken (transaction_in l.w l.at))) × (l.count ≤ 8) × (length l.memory ≡ 16384) × (copied l.c l.i (drop l.i (taken (transaction_in l.w l.at))) l.memory ≡ copied l.c 0 (taken (transaction_in l.w l.at)) l.initial.memory)
