-- Each type lists its records.
use native.Mathlib.Omega.{arith}
use borrow.Author.Rules.{rules}
use Rattle.rows.proofs.PartLaws.{type_count_lem}
use Rattle.validation.specs.Bounds.{most_of_type}
use Rattle.validation.specs.Validation.{type_records, counts_of}
use Rattle.validation.proofs.validate.validate_types.Goals as goal

pub returns-clause-emitted : goal.returns-clause-emitted
unfolding type_records
returns-clause-emitted c =
    rw (type_count_lem _ _ c.args.schema.now.table.findable.indexed.rows.laid) at
    (c.put_each.ensures.emitted (type_records c.args.schema.now.text.now c.args.schema.now.table.words.now (counts_of c.args.cycles.now)) (λ i o r u h p. search rules))

pub returns-clause-upper_bound : goal.returns-clause-upper_bound
returns-clause-upper_bound c =
    let b = c.put_each.ensures.upper_bound most_of_type (λ i o r u h p. search rules) in
    omega (arith, c.args.schema.now.table.findable.indexed.rows.laid.types_most)
