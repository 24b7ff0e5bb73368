-- Each field lists as many records as its arguments at most, and two.
use native.Mathlib.Omega.{arith}
use borrow.Author.Rules.{rules}
use Rattle.rules.specs.Field.{field_record, fields_records}
use Rattle.rules.specs.Bounds.{most_of_field}
use Rattle.rules.proofs.field.validate_field_definitions.Goals as goal

pub returns-clause-emitted : goal.returns-clause-emitted
unfolding fields_records
returns-clause-emitted c =
    rw c.field_rows.ensures at (c.put_each.ensures.emitted (field_record c.args.schema.now.text.now c.args.schema.now.table.words.now c.args.t.0 c.args.first c.args.fields.now) (λ i o r u h p. search rules))

pub returns-clause-upper_bound : goal.returns-clause-upper_bound
returns-clause-upper_bound c =
    let b = c.put_each.ensures.upper_bound most_of_field (λ i o r u h p. search rules) in
    omega (arith, c.field_rows.ensures, c.requires.field_part.within, c.args.schema.now.table.findable.indexed.rows.laid.fields_most)
