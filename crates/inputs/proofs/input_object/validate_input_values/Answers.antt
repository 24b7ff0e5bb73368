-- Each field lists two records at most.
use native.Mathlib.Omega.{arith}
use borrow.Author.Rules.{rules}
use Rattle.inputs.specs.InputObject.{input_field_record}
use Rattle.inputs.proofs.input_object.validate_input_values.Goals as goal

pub returns-clause-emitted : goal.returns-clause-emitted
unfolding input_field_record
returns-clause-emitted c =
    rw c.field_rows.ensures at
    (c.put_each.ensures.emitted (input_field_record c.args.schema.now.text.now c.args.schema.now.table.words.now c.args.t.0 c.args.first c.args.fields.now) (λ i o r u h p. search rules))

pub returns-clause-upper_bound : goal.returns-clause-upper_bound
returns-clause-upper_bound c =
    let b = c.put_each.ensures.upper_bound 2 (λ i o r u h p. search rules) in
    omega (arith, c.field_rows.ensures, c.requires.field_part.within, c.args.schema.now.table.findable.indexed.rows.laid.fields_most)
