-- the rows so far are those of the numbers below i
use Rattle.std.proofs.Common.{ℕ, ◌≤◌, ◌*◌, List}
use Rattle.records.specs.declared.Record.{Record}
use Rattle.records.specs.Records.{Emitted, each}
use Rattle.records.specs.Each.{Lists, AtMost}
use Rattle.records.proofs.put_each.Given as goal

abbrev pub invariant-loop-i : goal.invariant-loop-i
invariant-loop-i g l =
    record {
      emitted : (list : ℕ → List Record) → Lists (goal.F-post g l.rule) l.n list → Emitted (each list l.i) l.initial.out l.out l.rows;
      upper_bound : (most : ℕ) → AtMost (goal.F-post g l.rule) l.n most → l.rows ≤ l.i * most;
    }
