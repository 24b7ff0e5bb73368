-- `validate_input_object_definition`: the second list is written to the tail behind the first.
use native.Mathlib.Omega.{arith}
use Rattle.records.proofs.Records.{emit_seq}
use Rattle.inputs.specs.InputObject.{input_object_records}
use Rattle.inputs.proofs.input_object.validate_input_object_definition.Goals as goal

pub returns : goal.returns
unfolding input_object_records
returns c =
    record { emitted = emit_seq _ _ _ _ _ _ _ _ c.validate_cycle-n.ensures.emitted c.used-at.ensures c.validate_input_fields.ensures.emitted; upper_bound = omega (arith, c.validate_cycle-n.ensures.upper_bound, c.validate_input_fields.ensures.upper_bound) }
