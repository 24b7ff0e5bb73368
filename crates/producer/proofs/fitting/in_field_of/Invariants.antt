-- `in_field_of`: fields of later types are higher, so the first that fits is the lowest, and one is found.
use mathlib.Core.Bool.{true}
use mathlib.Core.Path.{◌≡◌}
use Prim.Native.Nat.{ℕ, ◌<◌}
use Rattle.links.specs.Fields.{chain_graph}
use Rattle.evidence.specs.Rules.{comes_in}
use Rattle.producer.proofs.fitting.in_field_of.Given as goal

abbrev pub invariant-loop-s : goal.invariant-loop-s
invariant-loop-s l = (q : ℕ) → q < l.s → (f : ℕ) → comes_in (chain_graph l.links.words.now) l.out l.t.0 f q ≡ true → ⊥
