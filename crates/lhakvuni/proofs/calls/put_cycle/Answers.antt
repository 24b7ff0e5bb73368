-- The count of the first search is that of the second, and work words come back as they were.
use mathlib.Core.Path.{◌∙◌}
use Rattle.lhakvuni.proofs.OutputLaws.{cycle_short, cycle_done}
use Rattle.lhakvuni.proofs.calls.put_cycle.Goals as goal

pub returns-then-out-n : goal.returns-then-out-n
returns-then-out-n c =
    record { cycle_output = cycle_short _ _ _ _ c.count_cycle-n.ensures.cycle_count c.if-out-n.true; work_unchanged = c.count_cycle-n.ensures.work_unchanged }

pub first_cycle-requires : goal.first_cycle-requires
first_cycle-requires c =
    record { t_bound = c.requires.t_bound; settled = rw c.count_cycle-n.ensures.work_unchanged c.requires.settled }

pub returns : goal.returns
returns c =
    record { cycle_output = cycle_done _ _ _ _ c.count_cycle-n.ensures.cycle_count _ _ c.if-out-n.false c.first_cycle.ensures.cycle_answered; work_unchanged = c.first_cycle.ensures.work_unchanged ∙ c.count_cycle-n.ensures.work_unchanged }
