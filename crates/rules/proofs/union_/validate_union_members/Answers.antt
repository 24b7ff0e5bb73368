-- Each member lists one record at most.
use native.Mathlib.Omega.{arith}
use borrow.Author.Rules.{rules}
use Rattle.rules.proofs.union_.validate_union_members.Goals as goal

pub returns-clause-upper_bound : goal.returns-clause-upper_bound
returns-clause-upper_bound c =
    let b = c.put_each.ensures.upper_bound 1 (λ i o r u h p. search rules) in
    omega (arith, c.member_rows.ensures, c.requires.within)
