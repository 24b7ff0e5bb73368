-- `input_object_named`: the tests of the code are those of the definition, of a name that is no type's, of an input object, of another type.
use native.Mathlib.Omega.{arith}
use mathlib.Core.Path.{◌≡◌, sym, ◌∙◌}
use Rattle.table.specs.Layout.{type_count}
use Rattle.rows.specs.Types.{type_named}
use Rattle.rows.proofs.FoundTypes.{Named, named, unnamed, found_at_lem, found_nothing}
use Rattle.rows.proofs.PartLaws.{type_count_lem}
use Rattle.links.specs.Fields.{input_object_named}
use Rattle.links.proofs.input_object_named.Goals as goal

pub returns-in_err-u : goal.returns-in_err-u
unfolding input_object_named
returns-in_err-u c =
    let none = unnamed _ _ c.requires.rows.laid _ _ c.look_up.ensures c.in_err-u.was in
    let k : input_object_named c.args.words.now c.args.name.0 ≡ type_count c.args.words.now = simp none in
    c.from_residual.ensures ∙ sym (found_nothing _ _ (omega (arith, k, type_count_lem _ _ c.requires.rows.laid)))

pub is_input_object-requires-clause-t_lt_types : goal.is_input_object-requires-clause-t_lt_types
is_input_object-requires-clause-t_lt_types c = (named _ _ c.requires.rows.laid _ _ c.look_up.ensures _ c.in_ok-u.was).below

pub returns-then-is_input_object : goal.returns-then-is_input_object
unfolding input_object_named
returns-then-is_input_object c =
    let there : Named c.args.words.now c.args.l c.args.name.0 c.in_ok-u.u = named _ _ c.requires.rows.laid _ _ c.look_up.ensures _ c.in_ok-u.was in
    let k : input_object_named c.args.words.now c.args.name.0 ≡ type_named c.args.words.now c.args.name.0 = simp (there.there, ← there.row, sym c.is_input_object.ensures ∙ c.if-is_input_object.true) in
    rw (k, ← there.row) (sym (found_at_lem _ _ there.below))

pub returns : goal.returns
unfolding input_object_named
returns c =
    let there : Named c.args.words.now c.args.l c.args.name.0 c.in_ok-u.u = named _ _ c.requires.rows.laid _ _ c.look_up.ensures _ c.in_ok-u.was in
    let k : input_object_named c.args.words.now c.args.name.0 ≡ type_count c.args.words.now = simp (there.there, ← there.row, sym c.is_input_object.ensures ∙ c.if-is_input_object.false) in
    sym (found_nothing _ _ (omega (arith, k, type_count_lem _ _ c.requires.rows.laid)))
