-- `comes_in`: the tests of the definition, the last first.
use mathlib.Core.Bool.{and-true}
use mathlib.Core.Path.{refl, sym, ◌∙◌}
use Rattle.names.proofs.BoolLaws.{passes}
use Rattle.evidence.proofs.ChainLaws.{led, not_led}
use Rattle.evidence.proofs.chain.comes_in.Goals as goal

pub returns-in_default : goal.returns-in_default
returns-in_default c = rw (not_led _ _ _ _ c.chain_to.ensures c.in_default.is) refl

pub returns : goal.returns
returns c =
    let m = led _ _ _ _ c.chain_to.ensures _ c.in-Some.is in
    rw (m.chain, m.leads, passes c.nearer.ensures c.if-not-nearer.false-raw) (c.eq.ensures ∙ sym (and-true _))
