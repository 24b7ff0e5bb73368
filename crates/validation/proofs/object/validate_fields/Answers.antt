-- `validate_fields`: the second list is written to the tail behind the first.
use native.Mathlib.Omega.{arith}
use mathlib.Core.Path.{sym, ◌∙◌}
use borrow.Author.Tests.{eq-eqb, ne_eqb}
use Rattle.records.proofs.Records.{emit_seq, emit_skip}
use Rattle.validation.proofs.object.validate_fields.Goals as goal

pub returns-then-field_rows-eq0 : goal.returns-then-field_rows-eq0
returns-then-field_rows-eq0 c =
    record { emitted = simp (eq-eqb _ _ (sym c.field_rows.ensures ∙ c.if-field_rows-eq0.true), ← c.empty_field_set.ensures) (emit_seq _ _ _ _ _ _ _ _ c.validate_field_definitions-n.ensures.emitted c.used-at.ensures c.put.ensures.emitted); upper_bound = omega (arith, c.put.ensures.upper_bound, c.validate_field_definitions-n.ensures.upper_bound) }

pub returns : goal.returns
returns c =
    record { emitted = simp (ne_eqb _ _ (rw c.field_rows.ensures at c.if-field_rows-eq0.false)) (emit_skip _ _ _ _ c.validate_field_definitions-n.ensures.emitted); upper_bound = omega (arith, c.validate_field_definitions-n.ensures.upper_bound) }
