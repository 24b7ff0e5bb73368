-- `arguments_start`: each branch lists what the definition lists there, by the tests that led to it.
use native.Mathlib.Omega.{arith}
use lib.Dec.{lit<}
use Rattle.table.proofs.LayoutLaws.{inside_field}
use Rattle.rows.proofs.parts.arguments_start.Goals as goal

pub start_at-requires : goal.start_at-requires
start_at-requires c = rw c.arguments_ends.ensures record { inside = inside_field c.requires.laid 3 (lit< tt); i_le_rows = omega arith }

pub returns : goal.returns
returns c = simp (c.start_at.ensures.value, c.arguments_ends.ensures, c.requires.laid.same)
