use native.Mathlib.Omega.{arith}
use mathlib.Core.Path.{sym, ◌∙◌}
use Prim.Native.Nat.{◌≤◌}
use Rattle.names.proofs.BoolLaws.{fails}
use Rattle.links.specs.Fields.{chains_end, chain_graph}
use Rattle.evidence.proofs.ChainLaws.{chained}
use Rattle.producer.proofs.ChoiceLaws.{from_far, from_first, from_none}
use Rattle.producer.proofs.fitting.in_from.Goals as goal

pub returns-then-not-nearer : goal.returns-then-not-nearer
returns-then-not-nearer c =
    from_far (chain_graph c.args.links.now.words.now) c.args.out.now c.args.t.0 c.args.s.0 (fails c.nearer.ensures c.if-not-nearer.true-raw)

pub overflow_cast-result : goal.overflow_cast-result
overflow_cast-result c = omega (arith, (chained c.requires.helping.rows).inside c.args.s.0 c.requires.s_lt_types)

pub returns-then-comes_in : goal.returns-then-comes_in
returns-then-comes_in c =
    from_first (chain_graph c.args.links.now.words.now) c.args.out.now c.args.t.0 c.args.s.0 c.loop-f.f (omega (arith, (chained c.requires.helping.rows).inside c.args.s.0 c.requires.s_lt_types)) (sym c.comes_in.ensures ∙ c.if-comes_in.true) c.loop-f.invariant

pub returns : goal.returns
returns c =
    let b : chains_end c.args.links.now.words.now c.args.s.0 ≤ c.loop-f.f = omega arith in
    from_none (chain_graph c.args.links.now.words.now) c.args.out.now c.args.t.0 c.args.s.0 c.loop-f.f b c.loop-f.invariant
