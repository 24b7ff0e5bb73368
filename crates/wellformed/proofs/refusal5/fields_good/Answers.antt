-- Each column lies within the table; the answer joins what the tests of the columns say.
use native.Mathlib.Omega.{arith}
use Rattle.table.proofs.LayoutLaws.{inside_field}
use Rattle.wellformed.proofs.refusal5.fields_good.Goals as goal

pub all_below-requires : goal.all_below-requires
all_below-requires c = rw c.field_names.ensures (inside_field c.requires 0 (omega arith))

pub all_below-requires-2 : goal.all_below-requires-2
all_below-requires-2 c = rw c.field_types.ensures (inside_field c.requires 1 (omega arith))

pub wraps_good-requires : goal.wraps_good-requires
wraps_good-requires c = rw c.field_wraps.ensures (inside_field c.requires 2 (omega arith))

pub all_below-requires-3 : goal.all_below-requires-3
all_below-requires-3 c = rw c.field_defaults.ensures (inside_field c.requires 4 (omega arith))
