-- `first_cycle`: a marked type has no cycle. The search from another starts with t marked too, and what it finds is the answer, by the laws
-- of proofs/Top.
use mathlib.Core.Path.{refl}
use Rattle.chains.proofs.Shape.{shaped}
use Rattle.chains.proofs.Top.{settled_answer, top_ready, top_same, top_answer}
use Rattle.chains.proofs.cycle.first_cycle.Goals as goal

pub returns-then-work-row-clause-cycle_answered : goal.returns-then-work-row-clause-cycle_answered
returns-then-work-row-clause-cycle_answered c =
    settled_answer _ _ _ c.requires.settled c.requires.t_bound c.if-work-row.true _

pub walk_type-n-requires : goal.walk_type-n-requires
walk_type-n-requires c =
    top_ready _ _ _ _ refl c.requires.t_bound c.requires.settled c.if-work-row.false _ (shaped _ c.args.links.now.linked.rows)

pub returns-clause-cycle_answered : goal.returns-clause-cycle_answered
returns-clause-cycle_answered c =
    top_answer _ _ _ _ refl c.requires.t_bound c.requires.settled c.if-work-row.false _ _ _ _ c.walk_type-n.ensures

pub returns-clause-work_unchanged : goal.returns-clause-work_unchanged
returns-clause-work_unchanged c =
    top_same _ _ _ _ refl c.requires.t_bound c.requires.settled c.if-work-row.false _ _ _ _ _ c.walk_type-n.ensures (rw c.types_in.ensures at c.forget.ensures)
