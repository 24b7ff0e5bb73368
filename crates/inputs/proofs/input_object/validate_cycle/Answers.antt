-- `validate_cycle`: each branch lists what the definition lists there, by the tests that led to it.
use native.Mathlib.Omega.{arith}
use borrow.Author.Tests.{lt-ltb, le-ltb}
use Rattle.records.proofs.Records.{emit_none}
use Rattle.inputs.specs.InputObject.{cycle_record}
use Rattle.inputs.proofs.input_object.validate_cycle.Goals as goal

pub returns-then-cycle-gt0 : goal.returns-then-cycle-gt0
unfolding cycle_record
returns-then-cycle-gt0 c =
    record { emitted = simp (lt-ltb _ _ c.if-cycle-gt0.true, ← c.recursive_input_object_definition.ensures) c.put.ensures.emitted; upper_bound = c.put.ensures.upper_bound }

pub returns : goal.returns
unfolding cycle_record
returns c = record { emitted = simp (le-ltb _ _ c.if-cycle-gt0.false) (emit_none _); upper_bound = omega arith }
