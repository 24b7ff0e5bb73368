-- The types one by one.
use Rattle.building.specs.Building.{Added}
use Rattle.boards.specs.Examples.{scalar_types}
use Rattle.boards.proofs.tables.write_types.Given as goal

abbrev pub invariant-loop-i : goal.invariant-loop-i
invariant-loop-i l = Added l.fn.at (scalar_types l.i) l.initial.words l.words l.next
