-- `settle_type`: a type that leads to settled types only is settled.
use Rattle.chains.proofs.SettleLaws.{settling_two}
use Rattle.chains.proofs.settle.settle_type.Goals as goal

pub returns-then-leads_to_settled : goal.returns-then-leads_to_settled
returns-then-leads_to_settled c = settling_two _ c.requires.walking c.args.s.0 c.requires.s_bound (c.leads_to_settled.ensures c.if-leads_to_settled.true)
