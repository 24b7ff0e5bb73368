-- Each argument lists one record at most.
use native.Mathlib.Omega.{arith}
use borrow.Author.Rules.{rules}
use Rattle.comparing.proofs.implementation_argument.validate_each_extra_argument.Goals as goal

pub returns-clause-upper_bound : goal.returns-clause-upper_bound
returns-clause-upper_bound c =
    let b = c.put_each.ensures.upper_bound 1 (λ i o r u h p. search rules) in
    omega (arith, c.argument_rows.ensures, c.requires.arguments_bound)
