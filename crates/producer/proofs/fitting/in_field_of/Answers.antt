use borrow.Author.Count.{below_more}
use borrow.Author.Tests.{eqb-true, eqb-false}
use native.Mathlib.Omega.{arith}
use mathlib.Core.Path.{◌≡◌, sym, ◌∙◌}
use mathlib.Core.Bool.{Bool, true, false, not}
use borrow.Author.Rules.{rules}
use Prim.Native.Nat.{◌≤◌}
use Rattle.names.proofs.BoolLaws.{passes, fails}
use Rattle.table.specs.Layout.{none, type_count}
use Rattle.links.specs.Fields.{chain_graph}
use Rattle.evidence.proofs.Kept.{marked_at, unmarked_at}
use Rattle.evidence.proofs.ChainLaws.{chained}
use Rattle.producer.specs.Produced.{IfMarked.unmarked}
use Rattle.producer.proofs.ChoiceLaws.{in_leads, in_first, in_never, from_not}
use Rattle.producer.proofs.fitting.in_field_of.Goals as goal

some_there : (b : Bool) → not b ≡ true → b ≡ false
some_there b e = search rules

none_there : (b : Bool) → not b ≡ false → b ≡ true
none_there b e = search rules

pub returns-then-not-marked : goal.returns-then-not-marked
returns-then-not-marked c = unmarked (unmarked_at c.args.out.now c.args.t.0 (fails c.marked.ensures c.if-not-marked.true-raw))

pub returns-then-leads : goal.returns-then-leads
returns-then-leads c =
    in_leads (chain_graph c.args.links.now.words.now) c.args.out.now c.args.t.0 (marked_at c.args.out.now c.args.t.0 (passes c.marked.ensures c.if-not-marked.false-raw)) (eqb-true _ _ (sym c.leads.ensures ∙ c.if-leads.true))

pub returns-then-ne : goal.returns-then-ne
returns-then-ne c =
    in_first (chain_graph c.args.links.now.words.now) c.args.out.now (chained c.requires.helping.rows).rising c.args.t.0 c.loop-s.s c.in_from-f.result.0 (rw (chained c.requires.helping.rows).types at c.loop-s-test.true) (marked_at c.args.out.now c.args.t.0 (passes c.marked.ensures c.if-not-marked.false-raw)) (eqb-false _ _ (sym c.leads.ensures ∙ c.if-leads.false)) c.loop-s.invariant c.in_from-f.ensures (eqb-false _ _ (some_there _ (sym c.ne.ensures ∙ c.if-ne.true)))

pub loop-s-preserved : goal.loop-s-preserved
loop-s-preserved c =
    below_more _ c.loop-s.s c.loop-s.invariant (from_not (chain_graph c.args.links.now.words.now) c.args.out.now c.in_from-f.ensures (eqb-true _ _ (none_there _ (sym c.ne.ensures ∙ c.if-ne.false))))

pub returns : goal.returns
returns c =
    let few : type_count c.args.links.now.words.now ≤ none = omega (arith, (chained c.requires.helping.rows).types, (chained c.requires.helping.rows).types_few) in
    absurd (in_never (chain_graph c.args.links.now.words.now) few c.args.out.now c.requires.all_right c.args.t.0 (rw (chained c.requires.helping.rows).types at c.requires.t_lt_types) (marked_at c.args.out.now c.args.t.0 (passes c.marked.ensures c.if-not-marked.false-raw)) (eqb-false _ _ (sym c.leads.ensures ∙ c.if-leads.false)) (λ q b. c.loop-s.invariant q (omega (arith, (chained c.requires.helping.rows).types))))
