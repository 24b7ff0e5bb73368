-- `lowest_back`: no row below u has the test.
use mathlib.Core.Bool.{false}
use mathlib.Core.Path.{◌≡◌}
use Prim.Native.Nat.{ℕ, ◌<◌}
use Rattle.producer.specs.Produced.{back}
use Rattle.producer.proofs.measure.lowest_back.Given as goal

abbrev pub invariant-loop-u : goal.invariant-loop-u
invariant-loop-u l = (s : ℕ) → s < l.u → back l.work l.out l.t.0 s ≡ false
