use Rattle.shapes.proofs.EachLaws.{none_added, next_added}
use Rattle.shapes.proofs.write_letter_names.Goals as goal

pub loop-i-init : goal.loop-i-init
loop-i-init c = none_added _ _ _

pub loop-i-preserved : goal.loop-i-preserved
loop-i-preserved c = next_added _ c.loop-i.invariant c.name_row-next.ensures
