-- Each argument lists two records at most.
use native.Mathlib.Omega.{arith}
use borrow.Author.Rules.{rules}
use Rattle.inputs.specs.InputObject.{argument_record}
use Rattle.inputs.proofs.input_object.validate_argument_values.Goals as goal

pub returns-clause-emitted : goal.returns-clause-emitted
unfolding argument_record
returns-clause-emitted c =
    rw c.argument_rows.ensures at
    (c.put_each.ensures.emitted (argument_record c.args.schema.now.text.now c.args.schema.now.table.words.now c.args.t.0 c.args.first c.args.arguments.now) (λ i o r u h p. search rules))

pub returns-clause-upper_bound : goal.returns-clause-upper_bound
returns-clause-upper_bound c =
    let b = c.put_each.ensures.upper_bound 2 (λ i o r u h p. search rules) in
    omega (arith, c.argument_rows.ensures, c.requires.argument_part.within)
