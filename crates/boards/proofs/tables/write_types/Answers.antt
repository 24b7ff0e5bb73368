use Rattle.shapes.proofs.EachLaws.{none_added, next_added}
use Rattle.boards.proofs.tables.write_types.Goals as goal

pub loop-i-init : goal.loop-i-init
loop-i-init c = none_added _ _ _

pub loop-i-preserved : goal.loop-i-preserved
loop-i-preserved c = next_added _ c.loop-i.invariant (rw c.from.ensures at c.type_row-next.ensures)
