-- `validate_type_system_name`: each branch lists what the definition lists there, by the tests that led to it.
use native.Mathlib.Omega.{arith}
use mathlib.Core.Path.{sym, ◌∙◌}
use borrow.Author.Tests.{eq-eqb, ne_eqb}
use Rattle.records.proofs.Records.{emit_none}
use Rattle.inputs.specs.Names.{name_record}
use Rattle.inputs.proofs.type_system_name.validate_type_system_name.Goals as goal

pub returns-then-flag-ne0 : goal.returns-then-flag-ne0
unfolding name_record
returns-then-flag-ne0 c = record { emitted = simp (ne_eqb _ _ c.if-flag-ne0.true) (emit_none _); upper_bound = omega arith }

pub returns-then-is_reserved : goal.returns-then-is_reserved
unfolding name_record
returns-then-is_reserved c =
    record { emitted = simp (eq-eqb _ _ c.if-flag-ne0.false, sym c.is_reserved.ensures ∙ c.if-is_reserved.true, ← c.reserved_name.ensures) c.put.ensures.emitted; upper_bound = c.put.ensures.upper_bound }

pub returns : goal.returns
unfolding name_record
returns c =
    record { emitted = simp (eq-eqb _ _ c.if-flag-ne0.false, sym c.is_reserved.ensures ∙ c.if-is_reserved.false) (emit_none _); upper_bound = omega arith }
