-- `validate_field_definition`: the second list is written to the tail behind the first.
use native.Mathlib.Omega.{arith}
use Rattle.records.proofs.Records.{emit_seq}
use Rattle.rules.proofs.field.validate_field_definition.Goals as goal

pub validate_argument_definitions-requires-clause-argument_part : goal.validate_argument_definitions-requires-clause-argument_part
validate_argument_definitions-requires-clause-argument_part c = rw c.arguments_start-first.ensures c.arguments_of-arguments.ensures.argument_part

pub returns : goal.returns
returns c =
    record { emitted = emit_seq _ _ _ _ _ _ _ _ (simp c.flag.ensures at c.validate_type_system_name-n.ensures.emitted) c.used-at.ensures (simp (c.arguments_start-first.ensures, c.arguments_of-arguments.ensures.result_value) at c.validate_argument_definitions.ensures.emitted); upper_bound = omega (arith, c.validate_type_system_name-n.ensures.upper_bound, c.validate_argument_definitions.ensures.upper_bound) }
