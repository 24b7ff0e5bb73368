-- The names one by one.
use Rattle.records.specs.Records.{each}
use Rattle.building.specs.Building.{Added, two_letters}
use Rattle.shapes.proofs.write_letters.Given as goal

abbrev pub invariant-loop-i : goal.invariant-loop-i
invariant-loop-i l = Added 0 (each two_letters l.i) l.initial.bytes l.bytes l.at
