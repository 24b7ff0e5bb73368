-- `validate_each_rule`: the second list is written to the tail behind the first.
use native.Mathlib.Omega.{arith}
use Rattle.records.proofs.Records.{emit_seq}
use Rattle.implementing.specs.Interface.{edges_records}
use Rattle.implementing.proofs.interface.validate_each_rule.Goals as goal

pub returns : goal.returns
unfolding edges_records
returns c =
    record { emitted = emit_seq _ _ _ _ _ _ _ _ c.validate_implements_interfaces-n.ensures.emitted c.used-at.ensures c.validate_implementation_fields.ensures.emitted; upper_bound = omega (arith, c.validate_implements_interfaces-n.ensures.upper_bound, c.validate_implementation_fields.ensures.upper_bound) }
