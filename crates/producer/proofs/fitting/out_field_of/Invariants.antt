-- `out_field_of`: the first field that fits is the lowest, and one is found.
use mathlib.Core.Bool.{true}
use mathlib.Core.Path.{◌≡◌}
use Prim.Native.Nat.{ℕ, ◌<◌}
use Rattle.links.specs.Fields.{chain_graph}
use Rattle.evidence.specs.Rules.{goes_out}
use Rattle.producer.proofs.fitting.out_field_of.Given as goal

abbrev pub invariant-loop-f : goal.invariant-loop-f
invariant-loop-f l = (h : ℕ) → h < l.f → goes_out (chain_graph l.links.words.now) l.out l.t.0 h ≡ true → ⊥
