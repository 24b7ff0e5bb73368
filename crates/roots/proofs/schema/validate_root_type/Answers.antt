-- `validate_root_type`: each branch lists what the definition lists there, by the tests that led to it.
use Rattle.table.specs.declared.kinds.Kind.TheVariants.{Object}
use Rattle.table.proofs.AnswerLaws.{kind_is}
use Rattle.records.proofs.Records.{emit_none}
use Rattle.roots.specs.Schema.{root_type}
use Rattle.roots.proofs.schema.validate_root_type.Goals as goal

pub returns-in_default-clause-emitted : goal.returns-in_default-clause-emitted
unfolding root_type
returns-in_default-clause-emitted c = simp (c.in_default.ensures, ← c.undefined_definition.ensures) c.put.ensures.emitted

pub returns-then-eq-clause-emitted : goal.returns-then-eq-clause-emitted
unfolding root_type
returns-then-eq-clause-emitted c =
    let (here, kind) = c.in-Some.ensures in
    simp (here, kind_is _ Object _ _ _ kind c.eq.ensures c.if-eq.true) (emit_none _)

pub returns-clause-emitted : goal.returns-clause-emitted
unfolding root_type
returns-clause-emitted c =
    let (here, kind) = c.in-Some.ensures in
    simp (here, kind_is _ Object _ _ _ kind c.eq.ensures c.if-eq.false, ← c.root_operation_object_type.ensures) c.put-2.ensures.emitted
