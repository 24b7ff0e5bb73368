-- `walk_fields` and `walk_type` do the search that the relations of specs/Search say, by the laws of proofs/Turns.
use borrow.Author.Tests.{eqb-true, eqb-false}
use native.Mathlib.Omega.{arith}
use mathlib.Core.Path.{refl, sym, ◌∙◌}
use mathlib.Core.Logic.{inl, inr, ⊎_elim}
use Prim.Native.Nat.{◌<◌}
use Rattle.table.specs.Layout.{type_count}
use Rattle.links.specs.Fields.{chain_graph}
use Rattle.rows.proofs.FoundTypes.{at_below, at_row, nothing_none}
use Rattle.chains.specs.Search.{Opens, Missed}
use Rattle.chains.proofs.Turns.{turn_done, turn_skip, turn_missed, found_here, found_below, opens, enter_falls, enter_ready, missed_output}
use Rattle.chains.proofs.walk.+walk_fields_walk_type.Goals as goal
use Rattle.chains.proofs.walk.+walk_fields_walk_type.Goals.{walk_fields-in-Some+else-eq+then-work-row+else-n-ne0, walk_fields-in-Some+else-eq+else-work-row, walk_fields-in_default}

pub walk_fields-returns-then-eq : goal.walk_fields-returns-then-eq
walk_fields-returns-then-eq t c =
    let found = sym c.target.ensures ∙ c.in-Some.is in
    let leads = at_row _ _ _ found in
    let below : c.in-Some.u.0 < type_count c.args.links.now.words.now = omega (arith, leads, at_below _ _ _ found) in
    inr
    (found_here _ _ _ _ _ _ _ c.loop-f.invariant.1 _ leads c.loop-f-test.true _ (sym c.end-f-end.ensures) c.requires
    below (eqb-true _ _ (sym c.eq.ensures ∙ c.if-eq.true))
    _ _ (rw c.loop-f.invariant.0 at c.store.ensures))

pub walk_fields-bounds-work-row : goal.walk_fields-bounds-work-row
walk_fields-bounds-work-row t c =
    let found = sym c.target.ensures ∙ c.in-Some.is in
    omega (arith, at_row _ _ _ found, at_below _ _ _ found, c.requires.room, c.loop-f.invariant.1.only.size)

pub walk_fields-bounds-work-row-then-work-row : goal.walk_fields-bounds-work-row-then-work-row
walk_fields-bounds-work-row-then-work-row t c =
    let found = sym c.target.ensures ∙ c.in-Some.is in
    omega (arith, at_row _ _ _ found, at_below _ _ _ found, c.requires.room, c.loop-f.invariant.1.only.size)

-- where a type is entered: it was not before, and the measure falls
pub walk_fields-walk_type-n-requires : goal.walk_fields-walk_type-n-requires
walk_fields-walk_type-n-requires t c =
    let found = sym c.target.ensures ∙ c.in-Some.is in
    let leads = at_row _ _ _ found in
    let below : c.in-Some.u.0 < type_count c.args.links.now.words.now = omega (arith, leads, at_below _ _ _ found) in
    let other = eqb-false _ _ (sym c.eq.ensures ∙ c.if-eq.false) in (
      omega (arith, enter_falls _ _ _ _ _ _ _ c.loop-f.invariant.1 _ leads c.requires below other c.if-work-row.true, c.decreases),
      enter_ready _ _ _ _ _ _ _ c.loop-f.invariant.1 _ leads c.requires below other c.if-work-row.true,
    )

-- the walk of the type that was entered found a chain
pub walk_fields-returns-then-n-ne0 : goal.walk_fields-returns-then-n-ne0
walk_fields-returns-then-n-ne0 t c =
    let found = sym c.target.ensures ∙ c.in-Some.is in
    let leads = at_row _ _ _ found in
    let below : c.in-Some.u.0 < type_count c.args.links.now.words.now = omega (arith, leads, at_below _ _ _ found) in
    let other = eqb-false _ _ (sym c.eq.ensures ∙ c.if-eq.false) in
    let o : Opens (chain_graph c.args.links.now.words.now) c.args.t.0 c.loop-f.work c.loop-f.f = opens _ _ _ _ _ _ _ c.loop-f.invariant.1 _ leads c.requires below other c.if-work-row.true in
    ⊎_elim
    (λ (r : Missed _ _ _ _ _ _ _ _ _). absurd (c.if-n-ne0.true r.nothing))
    (λ r. inr (found_below _ _ _ _ _ _ _ c.loop-f.invariant.1 _ leads c.loop-f-test.true o _ _ (sym c.end-f-end.ensures) _ _ _ _ _ _ c.loop-f.invariant.0 c.store-then-n-ne0.ensures r))
    c.walk_type-n.ensures

-- a turn ends after a walk that failed, at a type that was entered before, or at a field that is no chain field
pub walk_fields-loop-f-preserved : goal.walk_fields-loop-f-preserved
walk_fields-loop-f-preserved t c =
    elim c.match-target.branch [
      | walk_fields-in-Some+else-eq+then-work-row+else-n-ne0 w ↦
          let found = sym c.target.ensures ∙ w.in-Some.is in
          let leads = at_row _ _ _ found in
          let below : w.in-Some.u.0 < type_count c.args.links.now.words.now = omega (arith, leads, at_below _ _ _ found) in
          let other = eqb-false _ _ (sym w.eq.ensures ∙ w.if-eq.false) in
          let o : Opens (chain_graph c.args.links.now.words.now) c.args.t.0 c.loop-f.work c.loop-f.f = opens _ _ _ _ _ _ _ c.loop-f.invariant.1 _ leads c.requires below other w.if-work-row.true in (
            w.out-is ∙ missed_output w.walk_type-n.ensures w.if-n-ne0.false ∙ c.loop-f.invariant.0,
            turn_missed _ _ _ _ _ _ _ c.loop-f.invariant.1 _ leads c.loop-f-test.true o _ _ _ _ _ _ w.work-is w.walk_type-n.ensures w.if-n-ne0.false,
          )
      | walk_fields-in-Some+else-eq+else-work-row w ↦
          let leads = at_row _ _ _ (sym c.target.ensures ∙ w.in-Some.is) in (
            w.out-is ∙ c.loop-f.invariant.0,
            turn_skip _ _ _ _ _ _ _ c.loop-f.invariant.1 _ leads c.loop-f-test.true _ w.work-is (λ _. (eqb-false _ _ (sym w.eq.ensures ∙ w.if-eq.false), w.if-work-row.false)),
          )
      | walk_fields-in_default w ↦ (
        w.out-is ∙ c.loop-f.invariant.0,
        turn_skip _ _ _ _ _ _ _ c.loop-f.invariant.1 _ refl c.loop-f-test.true _ w.work-is
            (λ l. absurd (omega (arith, l, nothing_none _ _ (sym c.target.ensures ∙ w.in_default.is)))),
      )
    ]

pub walk_fields-returns : goal.walk_fields-returns
walk_fields-returns t c = inl (turn_done _ _ _ _ _ _ _ c.loop-f.invariant.1 _ (sym c.end-f-end.ensures) c.loop-f-test.false _ _ c.loop-f.invariant.0)
