-- `names_match`: what the calls answer, put together as the definition does.
use Rattle.rows.proofs.FoundTypes.{named, unnamed}
use Rattle.comparing.specs.FieldTypes.{names_match, implements, object_member}
use mathlib.Core.Path.{sym, ◌∙◌}
use Rattle.comparing.proofs.field_types.names_match.Goals as goal

pub returns-then-eq : goal.returns-then-eq
unfolding names_match
returns-then-eq c = simp (sym c.eq.ensures ∙ c.if-eq.true)

pub returns-in_default : goal.returns-in_default
unfolding names_match
returns-in_default c =
    simp (sym c.eq.ensures ∙ c.if-eq.false, unnamed _ _ c.args.table.now.findable.indexed.rows.laid _ _ c.look_up.ensures.value c.in_default.is)

pub returns-in_default-look_up : goal.returns-in_default-look_up
unfolding names_match
returns-in_default-look_up c =
    simp (sym c.eq.ensures ∙ c.if-eq.false, (named _ _ c.args.table.now.findable.indexed.rows.laid _ _ c.look_up.ensures.value _ c.in-Some.is).there, unnamed _ _ c.args.table.now.findable.indexed.rows.laid _ _ c.look_up-2.ensures.value c.in_default-look_up.is)

pub has_edge-requires : goal.has_edge-requires
has_edge-requires c =
    ((named _ _ c.args.table.now.findable.indexed.rows.laid _ _ c.look_up.ensures.value _ c.in-Some.is).below, (named _ _ c.args.table.now.findable.indexed.rows.laid _ _ c.look_up-2.ensures.value _ c.in-Some-look_up.is).below)

pub returns-then-has_edge : goal.returns-then-has_edge
unfolding names_match implements object_member
returns-then-has_edge c =
    let m = named _ _ c.args.table.now.findable.indexed.rows.laid _ _ c.look_up.ensures.value _ c.in-Some.is in
    let o = named _ _ c.args.table.now.findable.indexed.rows.laid _ _ c.look_up-2.ensures.value _ c.in-Some-look_up.is in
    simp (sym c.eq.ensures ∙ c.if-eq.false, m.there, o.there, sym c.has_edge.ensures ∙ c.if-has_edge.true, ← m.row, ← o.row)

pub has_object_member-requires : goal.has_object_member-requires
has_object_member-requires c =
    ((named _ _ c.args.table.now.findable.indexed.rows.laid _ _ c.look_up.ensures.value _ c.in-Some.is).below, (named _ _ c.args.table.now.findable.indexed.rows.laid _ _ c.look_up-2.ensures.value _ c.in-Some-look_up.is).below)

pub returns : goal.returns
unfolding names_match implements object_member
returns c =
    let m = named _ _ c.args.table.now.findable.indexed.rows.laid _ _ c.look_up.ensures.value _ c.in-Some.is in
    let o = named _ _ c.args.table.now.findable.indexed.rows.laid _ _ c.look_up-2.ensures.value _ c.in-Some-look_up.is in
    simp (sym c.eq.ensures ∙ c.if-eq.false, m.there, o.there, sym c.has_edge.ensures ∙ c.if-has_edge.false, c.has_object_member.ensures, ← m.row, ← o.row)
