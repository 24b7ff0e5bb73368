-- The row is past the types, or a type's, and then its kind tells.
use mathlib.Core.Path.{sym, ◌∙◌}
use Rattle.lhakvuni.proofs.NumberLaws.{row_past, row_type}
use Rattle.lhakvuni.proofs.calls.is_input_object_row.Goals as goal

pub returns-then-l-index : goal.returns-then-l-index
returns-then-l-index c = sym (row_past _ _ c.requires.laid.same _ (rw c.index.ensures at c.if-l-index.true))

pub returns : goal.returns
returns c = c.is_input_object.ensures ∙ sym (row_type _ _ c.requires.laid.same _ (rw c.index.ensures at c.if-l-index.false))
