-- `put`: what the calls answer, put together as the definition does.
use native.Mathlib.Omega.{arith}
use lib.ListN.{length-set}
use Rattle.records.proofs.Records.{emit_one, emit_short}
use Rattle.records.proofs.put.Goals as goal

pub bounds-out-1 : goal.bounds-out-1
bounds-out-1 c = simp length-set (omega arith)

pub bounds-out-2 : goal.bounds-out-2
bounds-out-2 c = simp length-set (omega arith)

pub bounds-out-3 : goal.bounds-out-3
bounds-out-3 c = simp length-set (omega arith)

pub returns-then-out-ge-WORDS : goal.returns-then-out-ge-WORDS
returns-then-out-ge-WORDS c = record { emitted = emit_one _ _ (omega arith); upper_bound = omega arith }

pub returns-else-out-ge-WORDS : goal.returns-else-out-ge-WORDS
returns-else-out-ge-WORDS c = record { emitted = emit_short _ _ (omega arith); upper_bound = omega arith }
