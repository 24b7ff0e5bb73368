-- `validate_enum_definition`: the second list is written to the tail behind the first.
use native.Mathlib.Omega.{arith}
use mathlib.Core.Path.{sym, ◌∙◌}
use borrow.Author.Tests.{eq-eqb, ne_eqb}
use Rattle.records.proofs.Records.{emit_seq, emit_skip}
use Rattle.rules.specs.Enum.{enum_records}
use Rattle.rules.proofs.enum_.validate_enum_definition.Goals as goal

pub returns-then-value_rows-eq0 : goal.returns-then-value_rows-eq0
unfolding enum_records
returns-then-value_rows-eq0 c =
    record { emitted = simp (eq-eqb _ _ (sym c.value_rows.ensures ∙ c.if-value_rows-eq0.true), ← c.empty_value_set.ensures) (emit_seq _ _ _ _ _ _ _ _ c.validate_enum_values-n.ensures.emitted c.used-at.ensures c.put.ensures.emitted); upper_bound = omega (arith, c.put.ensures.upper_bound, c.validate_enum_values-n.ensures.upper_bound) }

pub returns : goal.returns
unfolding enum_records
returns c =
    record { emitted = simp (ne_eqb _ _ (rw c.value_rows.ensures at c.if-value_rows-eq0.false)) (emit_skip _ _ _ _ c.validate_enum_values-n.ensures.emitted); upper_bound = omega (arith, c.validate_enum_values-n.ensures.upper_bound) }
