-- `enter`: there is room in the list, since the type that is entered was not yet counted.
use native.Mathlib.Omega.{arith}
use mathlib.Core.Path.{◌≡◌, sym, ◌∙◌}
use Prim.Native.Nat.{◌<◌}
use lib.ListN.{length-set}
use Rattle.table.specs.Layout.{type_count}
use Rattle.rows.proofs.FoundTypes.{at_below, at_row, nothing_none}
use Rattle.links.specs.Fields.{chain_target, chain_graph}
use Rattle.searching.proofs.Lookups.{facts}
use Rattle.searching.proofs.Reach.{room_left, entered_none, entered_at}
use Rattle.searching.proofs.enter.Goals as goal

pub returns-in_default : goal.returns-in_default
returns-in_default c =
    entered_none (chain_graph c.args.links.now.words.now) c.requires.entering.listed
    (λ l. absurd (omega (arith, l, nothing_none _ _ (sym c.target.ensures ∙ c.in_default.is), (facts c.requires.entering.help).types)))

pub bounds-work-row : goal.bounds-work-row
bounds-work-row c =
    let leads : c.in-Some.u.0 ≡ chain_target c.args.links.now.words.now c.args.f = at_row _ _ _ (sym c.target.ensures ∙ c.in-Some.is) in
    let below : c.in-Some.u.0 < type_count c.args.links.now.words.now = omega (arith, leads, at_below _ _ _ (sym c.target.ensures ∙ c.in-Some.is), (facts c.requires.entering.help).types) in
    omega (arith, below, c.requires.entering.listed.room)

pub returns-then-work-row-ne0 : goal.returns-then-work-row-ne0
returns-then-work-row-ne0 c =
    let leads : c.in-Some.u.0 ≡ chain_target c.args.links.now.words.now c.args.f = at_row _ _ _ (sym c.target.ensures ∙ c.in-Some.is) in
    entered_none (chain_graph c.args.links.now.words.now) c.requires.entering.listed (λ l. rw (← leads) c.if-work-row-ne0.true)

pub bounds-work-row-2 : goal.bounds-work-row-2
bounds-work-row-2 c =
    let leads : c.in-Some.u.0 ≡ chain_target c.args.links.now.words.now c.args.f = at_row _ _ _ (sym c.target.ensures ∙ c.in-Some.is) in
    let below : c.in-Some.u.0 < type_count c.args.links.now.words.now = omega (arith, leads, at_below _ _ _ (sym c.target.ensures ∙ c.in-Some.is), (facts c.requires.entering.help).types) in
    omega (arith, below, c.requires.entering.listed.room)

-- there is room in the list
pub overflow_add-end : goal.overflow_add-end
overflow_add-end c =
    let leads : c.in-Some.u.0 ≡ chain_target c.args.links.now.words.now c.args.f = at_row _ _ _ (sym c.target.ensures ∙ c.in-Some.is) in
    let below : c.in-Some.u.0 < type_count c.args.links.now.words.now = omega (arith, leads, at_below _ _ _ (sym c.target.ensures ∙ c.in-Some.is), (facts c.requires.entering.help).types) in
    let room : c.args.n < type_count c.args.links.now.words.now = room_left _ _ _ _ _ c.requires.entering.listed below c.if-work-row-ne0.false c.requires.entering.some in
    omega (arith, room, c.counts_at.ensures, c.requires.entering.listed.room)

pub offset_bounds-work-end : goal.offset_bounds-work-end
offset_bounds-work-end c =
    let leads : c.in-Some.u.0 ≡ chain_target c.args.links.now.words.now c.args.f = at_row _ _ _ (sym c.target.ensures ∙ c.in-Some.is) in
    let below : c.in-Some.u.0 < type_count c.args.links.now.words.now = omega (arith, leads, at_below _ _ _ (sym c.target.ensures ∙ c.in-Some.is), (facts c.requires.entering.help).types) in
    let room : c.args.n < type_count c.args.links.now.words.now = room_left _ _ _ _ _ c.requires.entering.listed below c.if-work-row-ne0.false c.requires.entering.some in
    omega (arith, room, c.counts_at.ensures, c.requires.entering.listed.room, (facts c.requires.entering.help).types)

pub bounds-work-end : goal.bounds-work-end
bounds-work-end c =
    let leads : c.in-Some.u.0 ≡ chain_target c.args.links.now.words.now c.args.f = at_row _ _ _ (sym c.target.ensures ∙ c.in-Some.is) in
    let below : c.in-Some.u.0 < type_count c.args.links.now.words.now = omega (arith, leads, at_below _ _ _ (sym c.target.ensures ∙ c.in-Some.is), (facts c.requires.entering.help).types) in
    let room : c.args.n < type_count c.args.links.now.words.now = room_left _ _ _ _ _ c.requires.entering.listed below c.if-work-row-ne0.false c.requires.entering.some in
    simp length-set (omega (arith, room, c.counts_at.ensures, c.requires.entering.listed.room, (facts c.requires.entering.help).types))

pub overflow_add-result : goal.overflow_add-result
overflow_add-result c =
    let leads : c.in-Some.u.0 ≡ chain_target c.args.links.now.words.now c.args.f = at_row _ _ _ (sym c.target.ensures ∙ c.in-Some.is) in
    let below : c.in-Some.u.0 < type_count c.args.links.now.words.now = omega (arith, leads, at_below _ _ _ (sym c.target.ensures ∙ c.in-Some.is), (facts c.requires.entering.help).types) in
    let room : c.args.n < type_count c.args.links.now.words.now = room_left _ _ _ _ _ c.requires.entering.listed below c.if-work-row-ne0.false c.requires.entering.some in
    omega (arith, room, (facts c.requires.entering.help).types)

pub returns : goal.returns
returns c =
    let leads : c.in-Some.u.0 ≡ chain_target c.args.links.now.words.now c.args.f = at_row _ _ _ (sym c.target.ensures ∙ c.in-Some.is) in
    let below : c.in-Some.u.0 < type_count c.args.links.now.words.now = omega (arith, leads, at_below _ _ _ (sym c.target.ensures ∙ c.in-Some.is), (facts c.requires.entering.help).types) in
    rw (c.counts_at.ensures ∙ (facts c.requires.entering.help).types)
    (entered_at (chain_graph c.args.links.now.words.now) c.args.f c.args.level c.in-Some.u.0 c.args.n c.args.work.now leads c.requires.entering.listed below c.if-work-row-ne0.false c.requires.entering.some)
