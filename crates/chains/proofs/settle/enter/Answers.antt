-- `enter`: a mark is set, and two words behind the marks.
use Rattle.chains.proofs.SettleLaws.{settling_entered}
use Rattle.chains.proofs.settle.enter.Goals as goal

pub returns : goal.returns
returns c =
    settling_entered _ c.requires.walking c.args.u.0 c.requires.u_bound.0 c.requires.u_bound.1 c.types_in.result c.counts_at.result c.trail_at.result _ _ c.types_in.ensures c.counts_at.ensures c.trail_at.ensures
