-- `validate_output_type`: each branch lists what the definition lists there, by the tests that led to it.
use mathlib.Core.Path.{sym, ◌∙◌}
use Rattle.records.proofs.Records.{emit_none}
use Rattle.rules.specs.Field.{output_type_record}
use Rattle.rules.proofs.field.validate_output_type.Goals as goal

pub returns-then-is_builtin-clause-emitted : goal.returns-then-is_builtin-clause-emitted
unfolding output_type_record
returns-then-is_builtin-clause-emitted c = simp (c.in_default.ensures, sym c.is_builtin.ensures ∙ c.if-is_builtin.true) (emit_none _)

pub returns-in_default-clause-emitted : goal.returns-in_default-clause-emitted
unfolding output_type_record
returns-in_default-clause-emitted c =
    simp (c.in_default.ensures, sym c.is_builtin.ensures ∙ c.if-is_builtin.false, ← c.undefined_definition.ensures) c.put.ensures.emitted

pub returns-then-is_input_object-clause-emitted : goal.returns-then-is_input_object-clause-emitted
unfolding output_type_record
returns-then-is_input_object-clause-emitted c =
    let (here, kind) = c.in-Some.ensures in
    simp (here, rw (c.from.ensures, kind) at (sym c.is_input_object.ensures ∙ c.if-is_input_object.true), ← c.output_type.ensures) c.put-then-is_input_object.ensures.emitted

pub returns-clause-emitted : goal.returns-clause-emitted
unfolding output_type_record
returns-clause-emitted c =
    let (here, kind) = c.in-Some.ensures in
    simp (here, rw (c.from.ensures, kind) at (sym c.is_input_object.ensures ∙ c.if-is_input_object.false)) (emit_none _)
