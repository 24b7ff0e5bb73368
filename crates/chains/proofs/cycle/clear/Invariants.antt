-- `clear`: the words that the loop has passed are 0.
use Rattle.std.proofs.Common.{◌≡◌, ◌++◌, drop, replicate}
use Rattle.chains.proofs.cycle.clear.Given as goal

abbrev pub invariant-loop-word : goal.invariant-loop-word
invariant-loop-word l = l.word-items ≡ replicate l.word-index 0 ++ drop l.word-index l.initial.word-items
