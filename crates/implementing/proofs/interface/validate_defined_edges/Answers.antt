-- Each edge lists what the rule lists for it, where it is defined.
use native.Mathlib.Omega.{arith}
use borrow.Author.Rules.{rules}
use Rattle.matching.specs.Bounds.{most_of_interface}
use Rattle.implementing.specs.Interface.{defined_edge, defined_edges}
use Rattle.implementing.proofs.interface.validate_defined_edges.Goals as goal

pub returns-clause-emitted : goal.returns-clause-emitted
unfolding defined_edges
returns-clause-emitted g c = λ list h.
    rw c.edge_rows.ensures at
    (c.put_each.ensures.emitted (defined_edge list c.args.own.now.table.now.words.now c.args.own.now.edges_first c.args.own.now.edges.now) (λ i o r u k p. search rules))

pub returns-clause-upper_bound : goal.returns-clause-upper_bound
returns-clause-upper_bound g c =
    let b = c.put_each.ensures.upper_bound most_of_interface (λ i o r u h p. search rules) in
    omega (arith, c.edge_rows.ensures, c.args.own.now.own_edges.part.within)
