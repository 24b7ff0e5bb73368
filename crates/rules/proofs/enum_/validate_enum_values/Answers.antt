-- Each value lists one record at most.
use native.Mathlib.Omega.{arith}
use borrow.Author.Rules.{rules}
use Rattle.rules.specs.Enum.{value_record}
use Rattle.rules.proofs.enum_.validate_enum_values.Goals as goal

pub returns-clause-emitted : goal.returns-clause-emitted
unfolding value_record
returns-clause-emitted c =
    rw c.value_rows.ensures at (c.put_each.ensures.emitted (value_record c.args.schema.now.text.now c.args.schema.now.table.words.now c.args.t.0 c.args.first c.args.values.now) (λ i o r u h p. search rules))

pub returns-clause-upper_bound : goal.returns-clause-upper_bound
returns-clause-upper_bound c =
    let b = c.put_each.ensures.upper_bound 1 (λ i o r u h p. search rules) in
    omega (arith, c.value_rows.ensures, c.requires.name_part.within)
