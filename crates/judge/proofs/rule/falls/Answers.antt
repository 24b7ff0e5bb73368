-- `falls`: where the field leads to no type nothing is asked, and else what the definition asks.
use mathlib.Core.Path.{refl}
use Rattle.evidence.proofs.ChainLaws.{leads_at, leads_nowhere}
use Rattle.judge.proofs.rule.falls.Goals as goal

pub returns-in_default : goal.returns-in_default
returns-in_default c = rw (leads_nowhere _ _ _ refl _ c.target.ensures c.in_default.is) refl

pub returns : goal.returns
returns c =
    let m = leads_at _ _ _ refl _ c.target.ensures _ c.in-Some.is in
    rw (m.below, m.row) (simp (c.number.ensures.value, c.number-2.ensures.value, c.marked.ensures, c.number-3.ensures.value, c.number-4.ensures.value))
