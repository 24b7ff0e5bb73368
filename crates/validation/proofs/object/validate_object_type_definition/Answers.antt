-- `validate_object_type_definition`: the second list is written to the tail behind the first.
use native.Mathlib.Omega.{arith}
use Rattle.records.proofs.Records.{emit_seq}
use Rattle.validation.specs.Object.{object_records}
use Rattle.validation.proofs.object.validate_object_type_definition.Goals as goal

pub validate_fields-n-requires-clause-field_part : goal.validate_fields-n-requires-clause-field_part
validate_fields-n-requires-clause-field_part c = rw c.fields_start-fields_first.ensures c.fields_of-fields.ensures.field_part

pub validate_edges-requires : goal.validate_edges-requires
validate_edges-requires c =
    record { own_edges = record { part = rw c.edges_start-edges_first.ensures c.edges_of-edges.ensures.name_part; all = c.edges_of-edges.ensures.result_value; below = c.requires }; field_part = rw c.fields_start-fields_first.ensures c.fields_of-fields.ensures.field_part }

pub returns : goal.returns
unfolding object_records
returns c =
    record { emitted = emit_seq _ _ _ _ _ _ _ _ (simp (c.edges_start-edges_first.ensures, c.edges_of-edges.ensures.result_value, c.fields_start-fields_first.ensures, c.fields_of-fields.ensures.result_value) at c.validate_fields-n.ensures.emitted) c.used-at.ensures (simp (c.edges_start-edges_first.ensures, c.edges_of-edges.ensures.result_value, c.fields_start-fields_first.ensures, c.fields_of-fields.ensures.result_value) at c.validate_edges.ensures.emitted); upper_bound = omega (arith, c.validate_fields-n.ensures.upper_bound, c.validate_edges.ensures.upper_bound) }
