-- Each edge lists one record at most.
use native.Mathlib.Omega.{arith}
use borrow.Author.Rules.{rules}
use Rattle.implementing.proofs.interface.validate_undefined_edges.Goals as goal

pub returns-clause-upper_bound : goal.returns-clause-upper_bound
returns-clause-upper_bound c =
    let b = c.put_each.ensures.upper_bound 1 (λ i o r u h p. search rules) in
    omega (arith, c.edge_rows.ensures, c.args.own.now.own_edges.part.within)
