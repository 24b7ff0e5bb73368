-- `validate_input_value`: the second list is written to the tail behind the first.
use native.Mathlib.Omega.{arith}
use Rattle.records.proofs.Records.{emit_seq}
use Rattle.inputs.proofs.input_object.validate_input_value.Goals as goal

pub returns : goal.returns
returns c =
    record { emitted = emit_seq _ _ _ _ _ _ _ _ c.validate_type_system_name-n.ensures.emitted c.used-at.ensures c.validate_input_type.ensures.emitted; upper_bound = omega (arith, c.validate_type_system_name-n.ensures.upper_bound, c.validate_input_type.ensures.upper_bound) }
