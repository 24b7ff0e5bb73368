-- The invariant: every wrap passed is good; one that is not decides.
use Rattle.std.proofs.Common.{◌≡◌, true}
use Rattle.names.specs.Count.{every}
use Rattle.names.specs.Wraps.{good_wrap}
use Rattle.table.specs.Layout.{word_at}
use Rattle.columns.proofs.wraps_good.Given as goal

abbrev pub invariant-loop-i : goal.invariant-loop-i
invariant-loop-i l = every (λ j. good_wrap (word_at l.words l.col j)) 0 l.i ≡ true
