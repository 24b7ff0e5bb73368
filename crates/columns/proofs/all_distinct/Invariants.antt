-- The invariant: every row passed is fresh, and the set holds their words; a word that is in the set already decides.
use Rattle.std.proofs.Common.{◌≡◌, true, length}
use Rattle.names.specs.Count.{every}
use Rattle.columns.specs.Columns.{fresh}
use Rattle.columns.proofs.RepeatLaws.{Met}
use Rattle.columns.proofs.all_distinct.Given as goal

abbrev pub invariant-loop-i : goal.invariant-loop-i
invariant-loop-i l = record {
  size : length l.seen ≡ 128;
  met : Met l.words l.col l.from l.seen l.i;
  passed : every (fresh l.words l.col l.from) l.from l.i ≡ true;
}
