-- What was read is within the buffer. Each round reads something, or is the last.
use Rattle.std.proofs.Common.{length, ◌-◌, ◌≤◌}
use Rattle.page.proofs.read_on.Given as goal

abbrev pub invariant-loop-size : goal.invariant-loop-size
invariant-loop-size g l = l.size ≤ length l.bytes

abbrev pub decreases-loop-size : goal.decreases-loop-size
decreases-loop-size g l = length l.bytes - l.size
