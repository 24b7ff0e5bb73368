-- Each edge of the interface lists one record at most.
use native.Mathlib.Omega.{arith}
use borrow.Author.Rules.{rules}
use Rattle.rows.specs.Parts.{edges_of}
use Rattle.implementing.specs.Interface.{transitive_edge, transitive_edges}
use Rattle.implementing.proofs.implements_interfaces.validate_transitive_edges.Goals as goal

pub returns-clause-emitted : goal.returns-clause-emitted
unfolding transitive_edges
returns-clause-emitted c =
    rw (c.edge_rows.ensures, c.edges_start-first.ensures, c.edges_of-interface_edges.ensures.result_value) at
    (c.put_each.ensures.emitted (transitive_edge c.args.ty.0 (edges_of c.args.words.now c.args.ty.0) c.args.via_edge c.edges_start-first.result c.edges_of-interface_edges.result.now) (λ i o r u h p. search rules))

pub returns-clause-upper_bound : goal.returns-clause-upper_bound
returns-clause-upper_bound c =
    let b = c.put_each.ensures.upper_bound 1 (λ i o r u h p. search rules) in
    omega (arith, c.edge_rows.ensures, c.edges_of-interface_edges.ensures.name_part.within)
