use Rattle.chains.proofs.SettleLaws.{all_settled}
use Rattle.chains.proofs.settle.settle.Goals as goal

pub returns : goal.returns
returns c = all_settled c.types_in-types.result c.types_in-types.ensures c.loop-t.invariant.1 c.forget.ensures
