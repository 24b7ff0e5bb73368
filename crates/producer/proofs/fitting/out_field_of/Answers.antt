use borrow.Author.Count.{below_more}
use native.Mathlib.Omega.{arith}
use mathlib.Core.Path.{sym, ◌∙◌}
use Prim.Native.Nat.{◌≤◌}
use Rattle.names.proofs.BoolLaws.{passes, fails, true_false}
use Rattle.table.specs.Layout.{none, type_count}
use Rattle.links.specs.Fields.{chains_end, chain_graph}
use Rattle.evidence.proofs.Kept.{marked_at, unmarked_at}
use Rattle.evidence.proofs.ChainLaws.{chained}
use Rattle.producer.specs.Produced.{IfMarked.unmarked}
use Rattle.producer.proofs.ChoiceLaws.{out_first, out_never}
use Rattle.producer.proofs.fitting.out_field_of.Goals as goal

pub returns-then-not-marked : goal.returns-then-not-marked
returns-then-not-marked c = unmarked (unmarked_at c.args.out.now c.args.t.0 (fails c.marked.ensures c.if-not-marked.true-raw))

pub overflow_cast-result : goal.overflow_cast-result
overflow_cast-result c = omega (arith, (chained c.requires.helping.rows).inside c.args.t.0 c.requires.t_lt_types)

pub returns-then-goes_out : goal.returns-then-goes_out
returns-then-goes_out c =
    out_first (chain_graph c.args.links.now.words.now) c.args.out.now c.args.t.0 c.loop-f.f (marked_at c.args.out.now c.args.t.0 (passes c.marked.ensures c.if-not-marked.false-raw)) (sym c.goes_out.ensures ∙ c.if-goes_out.true) c.loop-f.invariant

pub loop-f-preserved : goal.loop-f-preserved
loop-f-preserved c =
    below_more _ c.loop-f.f c.loop-f.invariant (λ q. true_false q (sym c.goes_out.ensures ∙ c.if-goes_out.false))

pub returns : goal.returns
returns c =
    let b : chains_end c.args.links.now.words.now c.args.t.0 ≤ c.loop-f.f = omega arith in
    let few : type_count c.args.links.now.words.now ≤ none = omega (arith, (chained c.requires.helping.rows).types, (chained c.requires.helping.rows).types_few) in
    absurd (out_never (chain_graph c.args.links.now.words.now) few c.args.out.now c.requires.all_right c.args.t.0 c.loop-f.f (rw (chained c.requires.helping.rows).types at c.requires.t_lt_types) (marked_at c.args.out.now c.args.t.0 (passes c.marked.ensures c.if-not-marked.false-raw)) b c.loop-f.invariant)
