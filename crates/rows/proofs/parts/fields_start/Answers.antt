-- `fields_start`: each branch lists what the definition lists there, by the tests that led to it.
use native.Mathlib.Omega.{arith}
use lib.Dec.{lit<}
use Rattle.table.proofs.LayoutLaws.{inside_type}
use Rattle.rows.proofs.parts.fields_start.Goals as goal

pub start_at-requires : goal.start_at-requires
start_at-requires c =
    rw (c.fields_ends.ensures, c.index.ensures) record { inside = inside_type c.requires.laid 4 (lit< tt); i_le_rows = omega arith }

pub returns : goal.returns
returns c = simp (c.start_at.ensures.value, c.fields_ends.ensures, c.index.ensures, c.requires.laid.same)
