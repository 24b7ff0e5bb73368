-- `in_from`: the first field that fits is the lowest.
use mathlib.Core.Bool.{true}
use mathlib.Core.Path.{◌≡◌}
use Prim.Native.Nat.{ℕ, ◌<◌}
use Rattle.links.specs.Fields.{chain_graph}
use Rattle.evidence.specs.Rules.{comes_in}
use Rattle.producer.proofs.fitting.in_from.Given as goal

abbrev pub invariant-loop-f : goal.invariant-loop-f
invariant-loop-f l = (h : ℕ) → h < l.f → comes_in (chain_graph l.links.words.now) l.out l.t.0 h l.s.0 ≡ true → ⊥
