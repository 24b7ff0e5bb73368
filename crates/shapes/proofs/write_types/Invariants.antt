-- The types one by one.
use Rattle.records.specs.Records.{each}
use Rattle.building.specs.Building.{Added}
use Rattle.shapes.specs.Shapes.{type_of}
use Rattle.shapes.proofs.write_types.Given as goal

abbrev pub invariant-loop-i : goal.invariant-loop-i
invariant-loop-i l = Added l.fn.at (each (type_of l.shape) l.i) l.initial.words l.words l.next
