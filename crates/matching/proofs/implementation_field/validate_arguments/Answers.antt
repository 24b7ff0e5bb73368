-- `validate_arguments`: each branch lists what the definition lists there, by the tests that led to it.
use native.Mathlib.Omega.{arith}
use mathlib.Core.Path.{sym, ◌∙◌}
use Rattle.records.proofs.Records.{emit_none}
use borrow.Author.Tests.{lt-ltb, le-ltb}
use Rattle.rows.proofs.FoundRows.{row_found, no_row, found_below}
use Rattle.matching.specs.Fields.{field_arguments}
use Rattle.matching.proofs.implementation_field.validate_arguments.Goals as goal

pub returns-in_default : goal.returns-in_default
unfolding field_arguments
returns-in_default c =
    let h = rw c.field_name.ensures at (no_row _ _ (sym c.look_up_field.ensures ∙ c.in_default.is)) in
    record { emitted = simp (le-ltb _ _ h) (emit_none _); upper_bound = omega arith }

pub overflow_add-pair-2 : goal.overflow_add-pair-2
overflow_add-pair-2 c =
    let b = found_below _ _ _ (sym c.look_up_field.ensures ∙ c.in-Some.is) in omega (arith, c.args.own.now.own_fields.part.within)

pub overflow_cast-pair-2 : goal.overflow_cast-pair-2
overflow_cast-pair-2 c =
    let b = found_below _ _ _ (sym c.look_up_field.ensures ∙ c.in-Some.is) in omega (arith, c.args.own.now.own_fields.part.within)

pub validate_implementing_arguments-requires : goal.validate_implementing_arguments-requires
validate_implementing_arguments-requires c =
    let b = found_below _ _ _ (sym c.look_up_field.ensures ∙ c.in-Some.is) in (omega (arith, c.requires.field_part.within), omega (arith, c.args.own.now.own_fields.part.within))

pub returns : goal.returns
unfolding field_arguments
returns c =
    let e = rw c.field_name.ensures at (row_found _ _ _ (sym c.look_up_field.ensures ∙ c.in-Some.is)) in
    record { emitted = simp (← e, lt-ltb _ _ (found_below _ _ _ (sym c.look_up_field.ensures ∙ c.in-Some.is))) c.validate_implementing_arguments.ensures.emitted; upper_bound = c.validate_implementing_arguments.ensures.upper_bound }
