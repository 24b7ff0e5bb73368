-- The invariant: no end passed falls, and `start` is where the next run starts; the last is compared with the count.
use Rattle.std.proofs.Common.{◌≡◌, true, leb}
use Rattle.names.specs.Count.{every}
use Rattle.table.specs.Layout.{word_at, start_at}
use Rattle.columns.proofs.ends_good.Given as goal

abbrev pub invariant-loop-i : goal.invariant-loop-i
invariant-loop-i l = record {
  here : l.start ≡ start_at l.words l.col l.i;
  passed : every (λ j. leb (start_at l.words l.col j) (word_at l.words l.col j)) 0 l.i ≡ true;
}
