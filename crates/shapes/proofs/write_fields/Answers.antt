use Rattle.shapes.proofs.EachLaws.{none_added, next_added}
use Rattle.shapes.proofs.write_fields.Goals as goal

pub loop-f-init : goal.loop-f-init
loop-f-init c = none_added _ _ _

pub loop-f-preserved : goal.loop-f-preserved
loop-f-preserved c = next_added _ c.loop-f.invariant (rw c.next_type.ensures.value at c.field_row-next.ensures)
