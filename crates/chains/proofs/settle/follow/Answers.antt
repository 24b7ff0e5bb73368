-- `follow`: a type that is not entered yet is.
use native.Mathlib.Omega.{arith}
use mathlib.Core.Path.{sym, ◌∙◌}
use Rattle.rows.proofs.FoundTypes.{at_below, at_row}
use Rattle.chains.proofs.settle.follow.Goals as goal

pub bounds-work-row : goal.bounds-work-row
bounds-work-row c =
    omega (arith, at_below _ _ _ (sym c.target.ensures ∙ c.in-Some.is), at_row _ _ _ (sym c.target.ensures ∙ c.in-Some.is), c.requires.walking.trail)

pub enter-requires-clause-u_bound : goal.enter-requires-clause-u_bound
enter-requires-clause-u_bound c =
    (omega (arith, at_below _ _ _ (sym c.target.ensures ∙ c.in-Some.is), at_row _ _ _ (sym c.target.ensures ∙ c.in-Some.is)), c.if-work-row.false)
