-- The fields one by one.
use Rattle.records.specs.Records.{each}
use Rattle.building.specs.Building.{Added}
use Rattle.shapes.specs.Shapes.{field_of}
use Rattle.shapes.proofs.write_fields.Given as goal

abbrev pub invariant-loop-f : goal.invariant-loop-f
invariant-loop-f l = Added l.fn.at (each (field_of l.shape) l.f) l.initial.words l.words l.next
