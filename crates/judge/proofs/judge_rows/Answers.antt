use native.Mathlib.Omega.{arith}
use mathlib.Core.Path.{sym, ◌∙◌}
use borrow.Author.Count.{below_more}
use Rattle.evidence.proofs.ChainLaws.{chained}
use Rattle.evidence.proofs.JudgedLaws.{passes_judged, broken_judged, no_rule_broken, a_rule_broken}
use Rattle.judge.proofs.judge_rows.Goals as goal

pub returns-in-Some : goal.returns-in-Some
returns-in-Some c =
    let (rule, breaks) = a_rule_broken _ (sym c.lowest.ensures ∙ c.in-Some.is) in
    sym ((broken_judged _ _ _ _ _).0 (record { row = rw (chained c.requires).types at c.loop-t-test.true; rule = rule; breaks = breaks; first = c.loop-t.invariant }))

pub loop-t-preserved : goal.loop-t-preserved
loop-t-preserved c = below_more _ c.loop-t.t c.loop-t.invariant (no_rule_broken _ (sym c.lowest.ensures ∙ c.in_default.is))

pub returns : goal.returns
returns c = sym ((passes_judged _ _ _).0 (λ s k. c.loop-t.invariant s (omega (arith, (chained c.requires).types))))
