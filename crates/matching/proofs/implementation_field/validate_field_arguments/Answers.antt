-- `validate_field_arguments`: the interface's fields are those of its type.
use native.Mathlib.Omega.{arith}
use borrow.Author.Rules.{rules}
use Rattle.comparing.specs.Bounds.{most_of_interface_field}
use Rattle.matching.specs.Fields.{interface_fields, field_arguments}
use Rattle.matching.proofs.implementation_field.validate_field_arguments.Goals as goal

pub returns-clause-emitted : goal.returns-clause-emitted
unfolding interface_fields
returns-clause-emitted c =
    rw (c.field_rows.ensures, c.interface_at-interface.ensures.first_is, c.interface_at-interface.ensures.fields_are) at
    (c.put_each.ensures.emitted (field_arguments c.args.own.now.table.now.words.now c.args.own.now.ty.0 c.args.own.now.fields_first c.args.own.now.fields.now c.args.edge c.interface_at-interface.result.fields.now c.interface_at-interface.result.first) (λ i o r u h p. search rules))

pub returns-clause-upper_bound : goal.returns-clause-upper_bound
returns-clause-upper_bound c =
    let b = c.put_each.ensures.upper_bound most_of_interface_field (λ i o r u h p. search rules) in
    omega (arith, c.field_rows.ensures, c.interface_at-interface.ensures.field_part.within, c.args.own.now.table.now.findable.indexed.rows.laid.fields_most)
