-- `validate_interface_argument`: each branch lists what the definition lists there, by the tests that led to it.
use native.Mathlib.Omega.{arith}
use mathlib.Core.Path.{sym, ◌∙◌}
use Rattle.records.proofs.Records.{emit_none}
use borrow.Author.Tests.{lt-ltb, le-ltb}
use Rattle.rows.proofs.FoundRows.{row_found, no_row, found_below}
use Rattle.comparing.specs.Arguments.{interface_argument}
use Rattle.comparing.proofs.implementation_argument.validate_interface_argument.Goals as goal

pub returns-in_default : goal.returns-in_default
unfolding interface_argument
returns-in_default c =
    let h = rw c.argument_name.ensures at (no_row _ _ (sym c.look_up_argument.ensures ∙ c.in_default.is)) in
    record { emitted = simp (le-ltb _ _ h, ← c.missing_interface_field_argument.ensures) c.put.ensures.emitted; upper_bound = c.put.ensures.upper_bound }

pub has_same_type-requires : goal.has_same_type-requires
has_same_type-requires c = (c.requires.i_bound, found_below _ _ _ (sym c.look_up_argument.ensures ∙ c.in-Some.is))

pub returns-then-has_same_type : goal.returns-then-has_same_type
unfolding interface_argument
returns-then-has_same_type c =
    let e = rw c.argument_name.ensures at (row_found _ _ _ (sym c.look_up_argument.ensures ∙ c.in-Some.is)) in
    record { emitted = simp (← e, lt-ltb _ _ (found_below _ _ _ (sym c.look_up_argument.ensures ∙ c.in-Some.is)), sym c.has_same_type.ensures ∙ c.if-has_same_type.true) (emit_none _); upper_bound = omega arith }

pub overflow_add-first : goal.overflow_add-first
overflow_add-first c = let b = found_below _ _ _ (sym c.look_up_argument.ensures ∙ c.in-Some.is) in omega arith

pub overflow_cast-first : goal.overflow_cast-first
overflow_cast-first c = let b = found_below _ _ _ (sym c.look_up_argument.ensures ∙ c.in-Some.is) in omega arith

pub returns : goal.returns
unfolding interface_argument
returns c =
    let e = rw c.argument_name.ensures at (row_found _ _ _ (sym c.look_up_argument.ensures ∙ c.in-Some.is)) in
    record { emitted = simp (← e, lt-ltb _ _ (found_below _ _ _ (sym c.look_up_argument.ensures ∙ c.in-Some.is)), sym c.has_same_type.ensures ∙ c.if-has_same_type.false, ← c.invalid_implementation_field_argument_type.ensures) c.put-2.ensures.emitted; upper_bound = c.put-2.ensures.upper_bound }
