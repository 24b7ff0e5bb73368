-- The invariant: every word passed is below the limit; one that is not decides.
use Rattle.std.proofs.Common.{◌≡◌, true, ltb}
use Rattle.names.specs.Count.{every}
use Rattle.table.specs.Layout.{word_at}
use Rattle.columns.proofs.all_below.Given as goal

abbrev pub invariant-loop-i : goal.invariant-loop-i
invariant-loop-i l = every (λ j. ltb (word_at l.words l.col j) l.limit) 0 l.i ≡ true
