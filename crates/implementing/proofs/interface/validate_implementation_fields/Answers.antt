-- `validate_implementation_fields`: each list is written to the tail behind those before it.
use borrow.Author.Rules.{rules}
use Rattle.records.proofs.Records.{emit_seq}
use Rattle.matching.specs.Fields.{interface_fields, missing_field, field_type_record, field_arguments}
use Rattle.implementing.specs.Interface.{implemented_fields}
use Rattle.implementing.proofs.interface.validate_implementation_fields.Goals as goal

pub returns-clause-emitted : goal.returns-clause-emitted
unfolding implemented_fields
returns-clause-emitted c =
    let missing = c.validate_defined_edges-n.ensures.emitted (λ edge. interface_fields (missing_field c.args.own.now.ty.0 c.args.own.now.fields.now edge) c.args.own.now.table.now.words.now) (λ e t o r u h p. search rules) in
    let types = c.validate_defined_edges.ensures.emitted (λ edge. interface_fields (field_type_record c.args.own.now.table.now.words.now c.args.own.now.ty.0 c.args.own.now.fields_first c.args.own.now.fields.now edge) c.args.own.now.table.now.words.now) (λ e t o r u h p. search rules) in
    let arguments = c.validate_defined_edges-2.ensures.emitted (λ edge. interface_fields (field_arguments c.args.own.now.table.now.words.now c.args.own.now.ty.0 c.args.own.now.fields_first c.args.own.now.fields.now edge) c.args.own.now.table.now.words.now) (λ e t o r u h p. search rules) in
    emit_seq _ _ _ _ _ _ _ _ (emit_seq _ _ _ _ _ _ _ _ missing c.used-at.ensures types) c.used-at-2.ensures arguments
