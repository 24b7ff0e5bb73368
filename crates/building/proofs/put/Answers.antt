-- The part of the row that fits is put in, and none behind the end.
use native.Mathlib.Omega.{arith}
use Rattle.building.proofs.BuildingLaws.{added_behind, added_part}
use Rattle.building.proofs.put.Goals as goal

pub returns-then-at-cells : goal.returns-then-at-cells
returns-then-at-cells g c = added_behind _ _ _ c.if-at-cells.true

pub returns : goal.returns
returns g c = added_part _ _ _ _ _ _ (omega arith) c.min-n.ensures (omega arith) c.copy_from_slice.ensures.after
