-- `validate_self_edge`: each branch lists what the definition lists there, by the tests that led to it.
use native.Mathlib.Omega.{arith}
use Rattle.records.proofs.Records.{emit_none}
use mathlib.Core.Path.{sym, ◌∙◌}
use Rattle.implementing.proofs.recursive_interface.validate_self_edge.Goals as goal

pub returns-then-eq : goal.returns-then-eq
returns-then-eq c =
    record { emitted = simp (sym c.eq.ensures ∙ c.if-eq.true, ← c.recursive_interface_definition.ensures) c.put.ensures.emitted; upper_bound = c.put.ensures.upper_bound }

pub returns : goal.returns
returns c = record { emitted = simp (sym c.eq.ensures ∙ c.if-eq.false) (emit_none _); upper_bound = omega arith }
