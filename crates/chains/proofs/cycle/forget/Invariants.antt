-- `forget`: the words that the loop has passed have lost the marks of a search.
use Rattle.chains.specs.Answer.{Forgotten}
use Rattle.chains.proofs.cycle.forget.Given as goal

abbrev pub invariant-loop-mark : goal.invariant-loop-mark
invariant-loop-mark l = Forgotten l.mark-index l.initial.mark-items l.mark-items
