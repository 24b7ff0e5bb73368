-- Each of the three lists two records at most.
use native.Mathlib.Omega.{arith}
use borrow.Author.Rules.{rules}
use Rattle.roots.proofs.schema.validate_root_operation_definitions.Goals as goal

pub returns-clause-upper_bound : goal.returns-clause-upper_bound
returns-clause-upper_bound c = let b = c.put_each.ensures.upper_bound 2 (λ i o r u h p. search rules) in omega arith
