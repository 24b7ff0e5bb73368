-- `validate_schema_definition`: the second list is written to the tail behind the first.
use native.Mathlib.Omega.{arith}
use Rattle.records.proofs.Records.{emit_seq}
use Rattle.roots.specs.Schema.{schema_records}
use Rattle.roots.proofs.schema.validate_schema_definition.Goals as goal

pub returns : goal.returns
unfolding schema_records
returns c =
    record { emitted = emit_seq _ _ _ _ _ _ _ _ c.validate_query-n.ensures.emitted c.used-at.ensures c.validate_root_operation_definitions.ensures.emitted; upper_bound = omega (arith, c.validate_query-n.ensures.upper_bound, c.validate_root_operation_definitions.ensures.upper_bound) }
