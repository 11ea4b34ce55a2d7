-- `tape::text::Text::put_first` meets its contract. Invariant: two digits of each byte so far are put.
use Rattle.std.proofs.Common.{◌≡◌, ◌+◌, ◌*◌, length}
use Rattle.tape.proofs.text.Text.put_first.Given as goal

abbrev pub invariant-loop-x : goal.invariant-loop-x
invariant-loop-x l = length l.self ≡ length l.fn.self + 2 * l.x-index
