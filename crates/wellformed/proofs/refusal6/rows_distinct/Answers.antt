-- Four runs, each what `run_distinct` says; the ends of each are good, and its words numbers of names.
use native.Mathlib.Omega.{arith}
use Rattle.table.proofs.LayoutLaws.{in_range, inside_edges, inside_field, inside_members, inside_values, inside_type}
use Rattle.wellformed.proofs.EndLaws.{edges_ends_lem, fields_ends_lem, members_ends_lem, values_ends_lem, rows_ends}
use Rattle.wellformed.proofs.WordLaws.{edge_names_below, field_names_below, member_names_below, value_names_below}
use Rattle.wellformed.proofs.refusal6.rows_distinct.Goals as goal

pub run_distinct-requires : goal.run_distinct-requires
run_distinct-requires c =
    rw (c.edges_ends.ensures, c.edge_names.ensures) record { inside = inside_edges c.requires.laid; inside_2 = inside_type c.requires.laid 3 (omega arith); t_lt_rows = c.requires.t_lt_types; rows_value = edges_ends_lem _ _ (rows_ends _ _ c.requires.l_value); all_below = edge_names_below c.requires.laid c.requires.l_value }

pub run_distinct-requires-2 : goal.run_distinct-requires-2
run_distinct-requires-2 c =
    rw (c.fields_ends.ensures, c.field_names.ensures) record { inside = inside_field c.requires.laid 0 (omega arith); inside_2 = inside_type c.requires.laid 4 (omega arith); t_lt_rows = c.requires.t_lt_types; rows_value = fields_ends_lem _ _ (rows_ends _ _ c.requires.l_value); all_below = field_names_below c.requires.laid c.requires.l_value }

pub run_distinct-requires-3 : goal.run_distinct-requires-3
run_distinct-requires-3 c =
    rw (c.members_ends.ensures, c.member_names.ensures) record { inside = inside_members c.requires.laid; inside_2 = inside_type c.requires.laid 5 (omega arith); t_lt_rows = c.requires.t_lt_types; rows_value = members_ends_lem _ _ (rows_ends _ _ c.requires.l_value); all_below = member_names_below c.requires.laid c.requires.l_value }

pub values_ends-requires : goal.values_ends-requires
values_ends-requires c = in_range c.requires.laid

pub run_distinct-requires-4 : goal.run_distinct-requires-4
run_distinct-requires-4 c =
    rw (c.values_ends.ensures, c.value_names.ensures) record { inside = inside_values c.requires.laid; inside_2 = inside_type c.requires.laid 6 (omega arith); t_lt_rows = c.requires.t_lt_types; rows_value = values_ends_lem _ _ (rows_ends _ _ c.requires.l_value); all_below = value_names_below c.requires.laid c.requires.l_value }
