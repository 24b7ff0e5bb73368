-- 0 for the first row, and else the end of the row before it.
use native.Mathlib.Omega.{arith}
use mathlib.Core.Path.{sym, ◌∙◌}
use Rattle.table.proofs.RowLaws.{start_zero, start_pred}
use Rattle.table.proofs.layout.start_at.Goals as goal

pub returns-then-i-eq0 : goal.returns-then-i-eq0
returns-then-i-eq0 c = record { value = rw c.if-i-eq0.true (sym (start_zero _ _)); upper_bound = omega arith }

pub returns : goal.returns
returns c =
    record { value = c.end_at.ensures.value ∙ sym (start_pred _ _ _ c.if-i-eq0.false); upper_bound = c.end_at.ensures.upper_bound }
