-- `leads_to_settled`: in each turn the field leads to a settled type or to none.
use Rattle.links.specs.Fields.{chain_graph}
use Rattle.chains.proofs.SettleLaws.{Led}
use Rattle.chains.proofs.settle.leads_to_settled.Given as goal

abbrev pub invariant-loop-f : goal.invariant-loop-f
invariant-loop-f l = Led (chain_graph l.links.words.now) l.work l.initial.f l.f
