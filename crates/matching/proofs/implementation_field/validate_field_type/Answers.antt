-- `validate_field_type`: each branch lists what the definition lists there, by the tests that led to it.
use native.Mathlib.Omega.{arith}
use mathlib.Core.Path.{sym, ◌∙◌}
use Rattle.records.proofs.Records.{emit_none}
use borrow.Author.Tests.{lt-ltb, le-ltb}
use Rattle.rows.proofs.FoundRows.{row_found, no_row, found_below}
use Rattle.matching.specs.Fields.{field_type_record}
use Rattle.matching.proofs.implementation_field.validate_field_type.Goals as goal

pub returns-in_default : goal.returns-in_default
unfolding field_type_record
returns-in_default c =
    let h = rw c.field_name.ensures at (no_row _ _ (sym c.look_up_field.ensures ∙ c.in_default.is)) in
    record { emitted = simp (le-ltb _ _ h) (emit_none _); upper_bound = omega arith }

pub field_type-own_name-requires : goal.field_type-own_name-requires
field_type-own_name-requires c = found_below _ _ _ (sym c.look_up_field.ensures ∙ c.in-Some.is)

pub field_wrap-own_wrap-requires : goal.field_wrap-own_wrap-requires
field_wrap-own_wrap-requires c = found_below _ _ _ (sym c.look_up_field.ensures ∙ c.in-Some.is)

pub returns-then-is_valid_implementation_field_type : goal.returns-then-is_valid_implementation_field_type
unfolding field_type_record
returns-then-is_valid_implementation_field_type c =
    let e = rw c.field_name.ensures at (row_found _ _ _ (sym c.look_up_field.ensures ∙ c.in-Some.is)) in
    record { emitted = simp (← e, lt-ltb _ _ (found_below _ _ _ (sym c.look_up_field.ensures ∙ c.in-Some.is)), simp (c.field_type-name.ensures, c.field_wrap-wrap.ensures, c.field_type-own_name.ensures, c.field_wrap-own_wrap.ensures) at (sym c.is_valid_implementation_field_type.ensures ∙ c.if-is_valid_implementation_field_type.true)) (emit_none _); upper_bound = omega arith }

pub overflow_add-row : goal.overflow_add-row
overflow_add-row c = omega (arith, c.requires.i_bound, c.requires.field_part.within, c.args.own.now.table.now.findable.indexed.rows.laid.fields_most)

pub overflow_cast-row : goal.overflow_cast-row
overflow_cast-row c = omega (arith, c.requires.i_bound, c.requires.field_part.within, c.args.own.now.table.now.findable.indexed.rows.laid.fields_most)

pub overflow_add-own_row : goal.overflow_add-own_row
overflow_add-own_row c =
    let b = found_below _ _ _ (sym c.look_up_field.ensures ∙ c.in-Some.is) in omega (arith, c.args.own.now.own_fields.part.within, c.args.own.now.table.now.findable.indexed.rows.laid.fields_most)

pub overflow_cast-own_row : goal.overflow_cast-own_row
overflow_cast-own_row c =
    let b = found_below _ _ _ (sym c.look_up_field.ensures ∙ c.in-Some.is) in omega (arith, c.args.own.now.own_fields.part.within, c.args.own.now.table.now.findable.indexed.rows.laid.fields_most)

pub returns : goal.returns
unfolding field_type_record
returns c =
    let e = rw c.field_name.ensures at (row_found _ _ _ (sym c.look_up_field.ensures ∙ c.in-Some.is)) in
    record { emitted = simp (← e, lt-ltb _ _ (found_below _ _ _ (sym c.look_up_field.ensures ∙ c.in-Some.is)), simp (c.field_type-name.ensures, c.field_wrap-wrap.ensures, c.field_type-own_name.ensures, c.field_wrap-own_wrap.ensures) at (sym c.is_valid_implementation_field_type.ensures ∙ c.if-is_valid_implementation_field_type.false), ← c.invalid_implementation_field_type.ensures) c.put.ensures.emitted; upper_bound = c.put.ensures.upper_bound }
