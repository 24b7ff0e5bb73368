use Rattle.std.proofs.Common.{◌≡◌, sym, arith, rules, tests}
use Rattle.names.proofs.CountLaws.{every_none, every_more, every_fails}
use Rattle.names.specs.Wraps.{good_wrap}
use Rattle.table.specs.Layout.{word_at}
use Rattle.columns.specs.Columns.{wraps_good}
use Rattle.columns.proofs.wraps_good.Goals as goal

pub loop-i-init : goal.loop-i-init
loop-i-init c = every_none _ 0

pub returns-then-not-is_good : goal.returns-then-not-is_good
unfolding wraps_good
returns-then-not-is_good c =
    sym (every_fails (λ j. good_wrap (word_at c.args.words.now c.args.col j)) 0 c.args.col.rows c.loop-i.i (omega arith) (omega arith) (search (rules, tests)))

pub loop-i-preserved : goal.loop-i-preserved
loop-i-preserved c =
    every_more (λ j. good_wrap (word_at c.args.words.now c.args.col j)) 0 c.loop-i.i (omega arith) c.loop-i.invariant (search (rules, tests))

pub returns : goal.returns
unfolding wraps_good
returns c =
    let e : c.loop-i.i ≡ c.args.col.rows = omega arith in
    sym (rw e at c.loop-i.invariant)
