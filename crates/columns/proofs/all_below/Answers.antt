use Rattle.std.proofs.Common.{◌≡◌, sym, arith}
use Rattle.std.proofs.lemmas.Bool.{lt-ltb, le-ltb}
use Rattle.names.proofs.CountLaws.{every_none, every_more, every_fails}
use Rattle.columns.specs.Columns.{below}
use Rattle.columns.proofs.all_below.Goals as goal

pub loop-i-init : goal.loop-i-init
loop-i-init c = every_none _ 0

pub returns-then-limit-end_at : goal.returns-then-limit-end_at
unfolding below
returns-then-limit-end_at c =
    sym (every_fails _ 0 _ _ (omega arith) (omega arith) (le-ltb _ _ (rw c.end_at.ensures.value at c.if-limit-end_at.true)))

pub loop-i-preserved : goal.loop-i-preserved
loop-i-preserved c = every_more _ 0 _ (omega arith) c.loop-i.invariant (lt-ltb _ _ (rw c.end_at.ensures.value at c.if-limit-end_at.false))

pub returns : goal.returns
unfolding below
returns c =
    let e : c.loop-i.i ≡ c.args.col.rows = omega arith in
    sym (rw e at c.loop-i.invariant)
