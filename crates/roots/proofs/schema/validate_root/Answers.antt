-- `validate_root`: the second list is written to the tail behind the first.
use native.Mathlib.Omega.{arith}
use mathlib.Core.Path.{sym, ◌∙◌}
use borrow.Author.Tests.{lt-ltb, le-ltb}
use Rattle.records.proofs.Records.{emit_none, emit_seq, emit_skip}
use Rattle.roots.specs.Schema.{root_records, root_repeat}
use Rattle.roots.proofs.schema.validate_root.Goals as goal

pub returns-then-eq : goal.returns-then-eq
unfolding root_records
returns-then-eq c =
    record { emitted = simp (rw c.root-name.ensures at (sym c.eq.ensures ∙ c.if-eq.true)) (emit_none _); upper_bound = omega arith }

pub returns-then-first-operation : goal.returns-then-first-operation
unfolding root_records root_repeat
returns-then-first-operation c =
    record { emitted = simp (rw c.root-name.ensures at (sym c.eq.ensures ∙ c.if-eq.false), ← c.root-name.ensures, ← c.first_root-first.ensures, lt-ltb _ _ c.if-first-operation.true, ← c.duplicate_root_operation_type.ensures) (emit_seq _ _ _ _ _ _ _ _ c.validate_root_type-n.ensures.emitted c.used-at.ensures c.put.ensures.emitted); upper_bound = omega (arith, c.validate_root_type-n.ensures.upper_bound, c.put.ensures.upper_bound) }

pub returns : goal.returns
unfolding root_records root_repeat
returns c =
    record { emitted = simp (rw c.root-name.ensures at (sym c.eq.ensures ∙ c.if-eq.false), ← c.root-name.ensures, ← c.first_root-first.ensures, le-ltb _ _ c.if-first-operation.false) (emit_skip _ _ _ _ c.validate_root_type-n.ensures.emitted); upper_bound = omega (arith, c.validate_root_type-n.ensures.upper_bound) }
