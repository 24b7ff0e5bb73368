use native.Mathlib.Omega.{arith}
use mathlib.Core.Path.{sym, ◌∙◌}
use Rattle.links.specs.Fields.{chain_graph}
use Rattle.rows.proofs.FoundTypes.{at_below, at_row, nothing_none}
use Rattle.chains.proofs.SettleLaws.{led_more}
use Rattle.chains.proofs.Shape.{shaped}
use Rattle.chains.proofs.settle.leads_to_settled.Goals as goal
use Rattle.chains.proofs.settle.leads_to_settled.Goals.{in-Some+else-work-row, in_default}

pub target-requires : goal.target-requires
target-requires c =
    omega (arith, c.loop-f-test.true, c.end-f-end.ensures, (shaped _ c.args.links.now.linked.rows).within c.args.s.0 c.requires.s_bound)

pub bounds-work-row : goal.bounds-work-row
bounds-work-row c =
    omega (arith, at_below _ _ _ (sym c.target.ensures ∙ c.in-Some.is), at_row _ _ _ (sym c.target.ensures ∙ c.in-Some.is), c.requires.words_in_bounds)

pub loop-f-preserved : goal.loop-f-preserved
loop-f-preserved c =
    led_more (chain_graph c.args.links.now.words.now) c.args.work.now c.start-f.result c.loop-f.f
    (elim c.match-target.branch [
      | in-Some+else-work-row w ↦ λ _. rw (at_row _ _ _ (sym c.target.ensures ∙ w.in-Some.is)) at w.if-work-row.false
      | in_default w ↦ λ l. absurd (omega (arith, l, nothing_none _ _ (sym c.target.ensures ∙ w.in_default.is)))
    ])
    c.loop-f.invariant
