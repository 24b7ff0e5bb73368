-- `validate_extra_argument`: each branch lists what the definition lists there, by the tests that led to it.
use native.Mathlib.Omega.{arith}
use mathlib.Core.Path.{sym, ◌∙◌}
use Rattle.records.proofs.Records.{emit_none}
use borrow.Author.Tests.{lt-ltb, le-ltb}
use Rattle.rows.proofs.FoundRows.{row_below, no_row}
use Rattle.comparing.specs.Arguments.{extra_argument}
use Rattle.comparing.proofs.implementation_argument.validate_extra_argument.Goals as goal

pub returns-in_default : goal.returns-in_default
unfolding extra_argument
returns-in_default c =
    let h = rw c.argument_name.ensures at (row_below _ _ _ (sym c.look_up_argument.ensures ∙ c.in_default.is)) in
    record { emitted = simp (lt-ltb _ _ h) (emit_none _); upper_bound = omega arith }

pub returns-then-non_null-argument_default : goal.returns-then-non_null-argument_default
unfolding extra_argument
returns-then-non_null-argument_default c =
    let h = rw c.argument_name.ensures at (no_row _ _ (sym c.look_up_argument.ensures ∙ c.in-None.is)) in
    record { emitted = simp (le-ltb _ _ h, simp (c.non_null.ensures, c.argument_wrap.ensures, c.argument_default.ensures) at c.if-non_null-argument_default.true, ← c.extra_required_implementation_field_argument.ensures) c.put.ensures.emitted; upper_bound = c.put.ensures.upper_bound }

pub returns : goal.returns
unfolding extra_argument
returns c =
    let h = rw c.argument_name.ensures at (no_row _ _ (sym c.look_up_argument.ensures ∙ c.in-None.is)) in
    record { emitted = simp (le-ltb _ _ h, simp (c.non_null.ensures, c.argument_wrap.ensures, c.argument_default.ensures) at c.if-non_null-argument_default.false) (emit_none _); upper_bound = omega arith }
