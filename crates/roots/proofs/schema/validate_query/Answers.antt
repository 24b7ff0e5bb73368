-- `validate_query`: each branch lists what the definition lists there, by the tests that led to it.
use native.Mathlib.Omega.{arith}
use mathlib.Core.Path.{sym, ◌∙◌}
use Rattle.records.proofs.Records.{emit_none}
use Rattle.roots.specs.Schema.{query_record}
use Rattle.roots.proofs.schema.validate_query.Goals as goal

pub returns-then-eq : goal.returns-then-eq
unfolding query_record
returns-then-eq c =
    record { emitted = simp (rw c.root.ensures at (sym c.eq.ensures ∙ c.if-eq.true), ← c.query_root_operation_type.ensures) c.put.ensures.emitted; upper_bound = c.put.ensures.upper_bound }

pub returns : goal.returns
unfolding query_record
returns c =
    record { emitted = simp (rw c.root.ensures at (sym c.eq.ensures ∙ c.if-eq.false)) (emit_none _); upper_bound = omega arith }
