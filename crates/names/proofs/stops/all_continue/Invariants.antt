-- The invariant: every byte passed continues a name; one that does not decides, and so does the stop of a block.
use Rattle.std.proofs.Common.{◌≡◌, true}
use Rattle.names.specs.Stops.{continue_between}
use Rattle.names.proofs.stops.all_continue.Given as goal

abbrev pub invariant-loop-i : goal.invariant-loop-i
invariant-loop-i l = continue_between l.text l.start l.i ≡ true
