use Rattle.std.proofs.Common.{take, arith}
use Rattle.std.proofs.lemmas.List.Edits.{fill_more}
use Rattle.chains.proofs.cycle.clear.Goals as goal

pub loop-word-preserved : goal.loop-word-preserved
loop-word-preserved c = rw c.loop-word.invariant (fill_more c.loop-word.word-index 0 (take c.args.n c.args.work.now) (omega arith))
