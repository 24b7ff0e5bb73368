-- `goes_out`: where the field is no chain field of the type, the test fails; else the rest of it is the code's.
use mathlib.Core.Path.{refl}
use Rattle.evidence.proofs.ChainLaws.{led, not_led}
use Rattle.evidence.proofs.chain.goes_out.Goals as goal

pub returns-in_default : goal.returns-in_default
returns-in_default c = rw (not_led _ _ _ _ c.chain_to.ensures c.in_default.is) refl

pub returns : goal.returns
returns c =
    let m = led _ _ _ _ c.chain_to.ensures _ c.in-Some.is in
    rw (m.chain, m.leads)
    (simp (c.leads.ensures, c.eq.ensures, c.leader.ensures, c.leader-2.ensures, c.out_distance.ensures.value, c.out_distance-2.ensures.value))
