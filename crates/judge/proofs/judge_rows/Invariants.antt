-- `judge_rows`: the rows below t break no rule.
use mathlib.Core.Path.{◌≡◌}
use Prim.Native.Nat.{ℕ, ◌<◌}
use Rattle.links.specs.Fields.{is_input_object, chain_graph}
use Rattle.evidence.specs.Rules.{lowest}
use Rattle.judge.proofs.judge_rows.Given as goal

abbrev pub invariant-loop-t : goal.invariant-loop-t
invariant-loop-t l = (s : ℕ) → s < l.t → lowest (chain_graph l.links.words.now) (is_input_object l.links.words.now) l.ev s ≡ 0
