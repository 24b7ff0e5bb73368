-- `validate_transitive_edge`: each branch lists what the definition lists there, by the tests that led to it.
use native.Mathlib.Omega.{arith}
use mathlib.Core.Path.{sym, ◌∙◌}
use Rattle.records.proofs.Records.{emit_none}
use Rattle.implementing.specs.Interface.{transitive_edge}
use Rattle.implementing.proofs.implements_interfaces.validate_transitive_edge.Goals as goal

pub returns-then-is_edge_of : goal.returns-then-is_edge_of
unfolding transitive_edge
returns-then-is_edge_of c =
    record { emitted = simp (rw c.edge_name.ensures at (sym c.is_edge_of.ensures ∙ c.if-is_edge_of.true)) (emit_none _); upper_bound = omega arith }

pub returns : goal.returns
unfolding transitive_edge
returns c =
    record { emitted = simp (rw c.edge_name.ensures at (sym c.is_edge_of.ensures ∙ c.if-is_edge_of.false), ← c.transitive_implemented_interfaces.ensures) c.put.ensures.emitted; upper_bound = c.put.ensures.upper_bound }
