-- `validate_unique_argument`: each branch lists what the definition lists there, by the tests that led to it.
use native.Mathlib.Omega.{arith}
use mathlib.Core.Path.{sym, ◌∙◌}
use Prim.Native.Nat.{◌≤◌}
use borrow.Author.Tests.{lt-ltb, le-ltb}
use Rattle.records.proofs.Records.{emit_none}
use Rattle.rows.specs.Parts.{argument_named, argument_name_in}
use Rattle.rows.proofs.FoundRows.{row_found, no_row}
use Rattle.inputs.specs.InputObject.{repeat_record}
use Rattle.inputs.proofs.input_object.validate_unique_argument.Goals as goal

pub returns-in_default : goal.returns-in_default
unfolding repeat_record
returns-in_default c =
    let h = rw c.argument_name.ensures at (no_row _ _ (sym c.look_up_argument.ensures ∙ c.in_default.is)) in
    let k : c.args.i ≤ argument_named c.args.arguments.now (argument_name_in c.args.arguments.now c.args.i) = omega arith in
    record { emitted = simp (le-ltb _ _ k) (emit_none _); upper_bound = omega arith }

pub returns-then-j-i : goal.returns-then-j-i
unfolding repeat_record
returns-then-j-i c =
    let e = rw c.argument_name.ensures at (row_found _ _ _ (sym c.look_up_argument.ensures ∙ c.in-Some.is)) in
    record { emitted = simp (← e, lt-ltb _ _ c.if-j-i.true, ← c.unique_input_value.ensures) c.put.ensures.emitted; upper_bound = c.put.ensures.upper_bound }

pub returns : goal.returns
unfolding repeat_record
returns c =
    let e = rw c.argument_name.ensures at (row_found _ _ _ (sym c.look_up_argument.ensures ∙ c.in-Some.is)) in
    record { emitted = simp (← e, le-ltb _ _ c.if-j-i.false) (emit_none _); upper_bound = omega arith }
