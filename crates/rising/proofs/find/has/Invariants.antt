-- The name can only stand in the range that is left, and each look halves it.
use Prim.Native.Nat.{◌-◌}
use Rattle.rising.proofs.HalfLaws.{Between}
use Rattle.rising.proofs.find.has.Given as goal

abbrev pub invariant-loop-from : goal.invariant-loop-from
invariant-loop-from l = Between l.sorted l.name.0 l.from l.to

abbrev pub decreases-loop-from : goal.decreases-loop-from
decreases-loop-from l = l.to - l.from
