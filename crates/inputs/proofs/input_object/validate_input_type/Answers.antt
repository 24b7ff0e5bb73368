-- `validate_input_type`: each branch lists what the definition lists there, by the tests that led to it.
use mathlib.Core.Path.{sym, ◌∙◌}
use Rattle.records.proofs.Records.{emit_none}
use Rattle.inputs.specs.InputObject.{input_type_record}
use Rattle.inputs.proofs.input_object.validate_input_type.Goals as goal

pub returns-then-is_builtin-clause-emitted : goal.returns-then-is_builtin-clause-emitted
unfolding input_type_record
returns-then-is_builtin-clause-emitted c = simp (c.in_default.ensures, sym c.is_builtin.ensures ∙ c.if-is_builtin.true) (emit_none _)

pub returns-in_default-clause-emitted : goal.returns-in_default-clause-emitted
unfolding input_type_record
returns-in_default-clause-emitted c =
    simp (c.in_default.ensures, sym c.is_builtin.ensures ∙ c.if-is_builtin.false, ← c.undefined_definition.ensures) c.put.ensures.emitted

pub returns-then-is_input_kind-clause-emitted : goal.returns-then-is_input_kind-clause-emitted
unfolding input_type_record
returns-then-is_input_kind-clause-emitted c =
    let (here, kind) = c.in-Some.ensures in
    simp (here, rw kind at (sym c.is_input_kind.ensures ∙ c.if-is_input_kind.true)) (emit_none _)

pub returns-clause-emitted : goal.returns-clause-emitted
unfolding input_type_record
returns-clause-emitted c =
    let (here, kind) = c.in-Some.ensures in
    simp (here, rw kind at (sym c.is_input_kind.ensures ∙ c.if-is_input_kind.false), ← c.input_type.ensures) c.put-2.ensures.emitted
