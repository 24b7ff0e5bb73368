-- No more is read than there is room for, and the room left falls.
use Rattle.std.proofs.Common.{◌-◌, ◌≤◌, length}
use Rattle.cases.proofs.input.read_full.Given as goal

abbrev pub invariant-loop-read : goal.invariant-loop-read
invariant-loop-read g l = l.read ≤ length l.bytes

abbrev pub decreases-loop-read : goal.decreases-loop-read
decreases-loop-read g l = length l.initial.bytes - l.read
