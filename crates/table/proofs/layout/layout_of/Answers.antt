-- Seven counts below 2^32, so that the sums of their multiples stay far below 2^64.
use native.Mathlib.Omega.{arith}
use Rattle.table.specs.Layout.{name_count, type_count, edge_count, field_count, argument_count, member_count, value_count, types_at, edges_at, fields_at, arguments_at, members_at, values_at, roots_at}
use Rattle.table.proofs.layout.layout_of.Goals as goal

pub returns : goal.returns
unfolding name_count type_count edge_count field_count argument_count member_count value_count types_at edges_at fields_at arguments_at members_at values_at roots_at
returns c =
    record { value = simp (c.count_at-names.ensures.value, c.count_at-types.ensures.value, c.count_at-edges.ensures.value, c.count_at-fields.ensures.value, c.count_at-arguments.ensures.value, c.count_at-members.ensures.value, c.count_at-values.ensures.value); in_range = omega arith }
