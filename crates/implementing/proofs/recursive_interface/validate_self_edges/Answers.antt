-- Each edge lists one record at most.
use native.Mathlib.Omega.{arith}
use borrow.Author.Rules.{rules}
use Rattle.implementing.specs.Interface.{self_edge}
use Rattle.implementing.proofs.recursive_interface.validate_self_edges.Goals as goal

pub returns-clause-emitted : goal.returns-clause-emitted
unfolding self_edge
returns-clause-emitted c =
    rw c.edge_rows.ensures at (c.put_each.ensures.emitted (self_edge c.args.table.now.words.now c.args.t.0 c.args.first c.args.edges.now) (λ i o r u h p. search rules))

pub returns-clause-upper_bound : goal.returns-clause-upper_bound
returns-clause-upper_bound c =
    let b = c.put_each.ensures.upper_bound 1 (λ i o r u h p. search rules) in
    omega (arith, c.edge_rows.ensures, c.requires.name_part.within)
