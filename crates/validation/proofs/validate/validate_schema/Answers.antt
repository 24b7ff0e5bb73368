-- `validate_schema`: the second list is written to the tail behind the first.
use native.Mathlib.Omega.{arith}
use Rattle.records.proofs.Records.{emit_seq}
use Rattle.validation.specs.Validation.{records}
use Rattle.validation.proofs.validate.validate_schema.Goals as goal

pub returns : goal.returns
unfolding records
returns c =
    record { emitted = emit_seq _ _ _ _ _ _ _ _ c.validate_schema_definition-n.ensures.emitted c.used-at.ensures c.validate_types.ensures.emitted; upper_bound = omega (arith, c.validate_schema_definition-n.ensures.upper_bound, c.validate_types.ensures.upper_bound) }
