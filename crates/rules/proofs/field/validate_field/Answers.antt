-- `validate_field`: the second list is written to the tail behind the first.
use native.Mathlib.Omega.{arith}
use Rattle.records.proofs.Records.{emit_seq}
use Rattle.rules.specs.Field.{field_record}
use Rattle.rules.proofs.field.validate_field.Goals as goal

pub validate_field_definition-n-requires-clause-name_lt_names : goal.validate_field_definition-n-requires-clause-name_lt_names
validate_field_definition-n-requires-clause-name_lt_names c = rw c.field_name.ensures (c.requires.field_part.names _ c.requires.i_bound)

pub validate_output_type-requires : goal.validate_output_type-requires
validate_output_type-requires c = rw c.field_type.ensures (c.requires.field_part.types _ c.requires.i_bound)

pub returns : goal.returns
unfolding field_record
returns c =
    record { emitted = emit_seq _ _ _ _ _ _ _ _ (simp c.field_name.ensures at c.validate_field_definition-n.ensures.emitted) c.used-at.ensures (simp c.field_type.ensures at c.validate_output_type.ensures.emitted); upper_bound = omega (arith, c.validate_field_definition-n.ensures.upper_bound, c.validate_output_type.ensures.upper_bound) }
