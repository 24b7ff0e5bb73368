-- `validate_missing_field`: each branch lists what the definition lists there, by the tests that led to it.
use mathlib.Core.Path.{sym, ◌∙◌}
use Rattle.records.proofs.Records.{emit_none}
use borrow.Author.Tests.{lt-ltb, le-ltb}
use Rattle.rows.proofs.FoundRows.{row_below, no_row}
use Rattle.matching.specs.Fields.{missing_field}
use Rattle.matching.proofs.implementation_field.validate_missing_field.Goals as goal

pub returns-in_default-clause-emitted : goal.returns-in_default-clause-emitted
unfolding missing_field
returns-in_default-clause-emitted c =
    let h = rw c.field_name.ensures at (row_below _ _ _ (sym c.look_up_field.ensures ∙ c.in_default.is)) in
    simp (lt-ltb _ _ h) (emit_none _)

pub returns-clause-emitted : goal.returns-clause-emitted
unfolding missing_field
returns-clause-emitted c =
    let h = rw c.field_name.ensures at (no_row _ _ (sym c.look_up_field.ensures ∙ c.in-None.is)) in
    simp (le-ltb _ _ h, ← c.missing_interface_field.ensures) c.put.ensures.emitted
