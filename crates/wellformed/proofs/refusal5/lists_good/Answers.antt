-- Each column lies within the table; the answer joins what the tests of the columns say.
use Rattle.table.proofs.LayoutLaws.{inside_edges, inside_members, inside_values}
use Rattle.wellformed.proofs.refusal5.lists_good.Goals as goal

pub all_below-requires : goal.all_below-requires
all_below-requires c = rw c.edge_names.ensures (inside_edges c.requires)

pub all_below-requires-2 : goal.all_below-requires-2
all_below-requires-2 c = rw c.member_names.ensures (inside_members c.requires)

pub all_below-requires-3 : goal.all_below-requires-3
all_below-requires-3 c = rw c.value_names.ensures (inside_values c.requires)
