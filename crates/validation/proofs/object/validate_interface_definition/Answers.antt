-- `validate_interface_definition`: the second list is written to the tail behind the first.
use native.Mathlib.Omega.{arith}
use Rattle.records.proofs.Records.{emit_seq}
use Rattle.validation.specs.Object.{interface_records}
use Rattle.validation.proofs.object.validate_interface_definition.Goals as goal

pub validate_self_edges-n-requires-clause-name_part : goal.validate_self_edges-n-requires-clause-name_part
validate_self_edges-n-requires-clause-name_part c = rw c.edges_start-first.ensures c.edges_of-edges.ensures.name_part

pub returns : goal.returns
unfolding interface_records
returns c =
    record { emitted = emit_seq _ _ _ _ _ _ _ _ (simp (c.edges_start-first.ensures, c.edges_of-edges.ensures.result_value) at c.validate_self_edges-n.ensures.emitted) c.used-at.ensures c.validate_object_type_definition.ensures.emitted; upper_bound = omega (arith, c.validate_self_edges-n.ensures.upper_bound, c.validate_object_type_definition.ensures.upper_bound) }
