-- The tests of refusals 1 to 3 come in their order; where all pass, the table is laid out as its layout says, and the rest is `check_laid`.
use Rattle.names.proofs.BoolLaws.{passes}
use Rattle.wellformed.proofs.LimitLaws.{limits, laid}
use Rattle.wellformed.proofs.check.check_table.Goals as goal

pub check_laid-requires : goal.check_laid-requires
check_laid-requires c =
    let kept = rw c.layout_of-l.ensures.value at (passes c.in_limits.ensures c.if-not-in_limits.false-raw) in
    let length_kept = rw c.layout_of-l.ensures.value at (passes c.right_length.ensures c.if-not-right_length.false-raw) in
    record { laid = rw c.layout_of-l.ensures.value (laid _ _ kept length_kept); text_len_bound = (limits _ _ kept).bytes }
