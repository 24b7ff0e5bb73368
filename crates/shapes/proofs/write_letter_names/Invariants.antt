-- The names one by one.
use Rattle.building.specs.Building.{Added}
use Rattle.shapes.specs.Shapes.{letter_names}
use Rattle.shapes.proofs.write_letter_names.Given as goal

abbrev pub invariant-loop-i : goal.invariant-loop-i
invariant-loop-i l = Added l.fn.at (letter_names l.i) l.initial.words l.words l.next
