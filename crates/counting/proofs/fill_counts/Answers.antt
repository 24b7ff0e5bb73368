use Rattle.counting.proofs.CountingLaws.{filling_more}
use Rattle.counting.proofs.fill_counts.Goals as goal

pub loop-t-preserved : goal.loop-t-preserved
loop-t-preserved c = (
  c.loop-t.invariant.0,
  rw c.counts_at-counts_at.ensures (filling_more _ _ c.loop-t.invariant.0 _ _ _ _ c.loop-t.invariant.1 c.loop-t-test.true c.count_cycle-n.ensures.cycle_count _ c.count_cycle-n.ensures.work_unchanged),
)
