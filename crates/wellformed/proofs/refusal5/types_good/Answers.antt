-- Each column lies within the table; the answer joins what the tests of the columns say.
use native.Mathlib.Omega.{arith}
use Rattle.table.proofs.LayoutLaws.{inside_type}
use Rattle.wellformed.proofs.refusal5.types_good.Goals as goal

pub all_below-requires : goal.all_below-requires
all_below-requires c = rw c.type_names.ensures (inside_type c.requires 0 (omega arith))

pub all_below-requires-2 : goal.all_below-requires-2
all_below-requires-2 c = rw c.type_kinds.ensures (inside_type c.requires 1 (omega arith))

pub all_below-requires-3 : goal.all_below-requires-3
all_below-requires-3 c = rw c.type_flags.ensures (inside_type c.requires 2 (omega arith))
