-- The own edges are all those of the type.
use borrow.Author.Rules.{rules}
use Rattle.implementing.specs.Interface.{transitive_edges}
use Rattle.implementing.proofs.interface.validate_transitive_interfaces.Goals as goal

pub returns-clause-emitted : goal.returns-clause-emitted
returns-clause-emitted c =
    c.validate_defined_edges.ensures.emitted (transitive_edges c.args.own.now.table.now.words.now c.args.own.now.ty.0 c.args.own.now.edges.now) (λ e t o r u h p. rw c.args.own.now.own_edges.all (search rules))
