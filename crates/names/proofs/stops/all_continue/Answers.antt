use Rattle.std.proofs.Common.{arith, rules}
use Rattle.names.proofs.StopLaws.{continue_none, continue_more, continue_fails, block_decides}
use Rattle.names.proofs.stops.all_continue.Goals as goal

pub loop-i-init : goal.loop-i-init
loop-i-init c = continue_none _ _

pub returns-then-i-eq0 : goal.returns-then-i-eq0
returns-then-i-eq0 c =
    block_decides _ _ c.requires.stops _ _ _ (omega arith) (omega arith) c.requires.start_le_end.1 c.if-i-eq0.true c.loop-i.invariant

pub returns-then-not-continues_name : goal.returns-then-not-continues_name
returns-then-not-continues_name c = search (rules, continue_fails)

pub loop-i-preserved : goal.loop-i-preserved
loop-i-preserved c = search (rules, continue_more)
