-- Each column lies within the table; the answer joins what the tests of the columns say.
use native.Mathlib.Omega.{arith}
use Rattle.table.proofs.LayoutLaws.{inside_field, inside_type}
use Rattle.wellformed.proofs.refusal5.all_ends_good.Goals as goal

pub ends_good-requires : goal.ends_good-requires
ends_good-requires c = rw c.edges_ends.ensures (inside_type c.requires 3 (omega arith))

pub ends_good-requires-2 : goal.ends_good-requires-2
ends_good-requires-2 c = rw c.fields_ends.ensures (inside_type c.requires 4 (omega arith))

pub ends_good-requires-3 : goal.ends_good-requires-3
ends_good-requires-3 c = rw c.members_ends.ensures (inside_type c.requires 5 (omega arith))

pub ends_good-requires-4 : goal.ends_good-requires-4
ends_good-requires-4 c = rw c.values_ends.ensures (inside_type c.requires 6 (omega arith))

pub ends_good-requires-5 : goal.ends_good-requires-5
ends_good-requires-5 c = rw c.arguments_ends.ensures (inside_field c.requires 3 (omega arith))
