-- Good words, column by column; and where rows are good, the words of a column of names are numbers of names.
use mathlib.Core.Path.{◌≡◌}
use mathlib.Core.Bool.{true, ◌&&◌}
use mathlib.Core.List.{List}
use Prim.Native.Nat.{ℕ}
use native.Mathlib.Omega.{arith}
use Rattle.table.specs.declared.layout.Column.{Column}
use Rattle.table.specs.declared.layout.Layout.{Layout}
use Rattle.table.specs.Layout.{most_names, Laid, type_names, type_kinds, type_flags, edge_names, field_names, field_types, field_wraps, field_defaults, argument_names, argument_types, argument_wraps, argument_defaults, member_names, value_names}
use Rattle.columns.specs.Columns.{below, AllBelow, wraps_good}
use Rattle.columns.proofs.ColumnLaws.{below_at}
use Rattle.wellformed.specs.WellFormed.{types_good, fields_good, arguments_good, lists_good, roots_good, words_good, all_ends_good, sections_all_fit, fields_all_fit, rows_good}
use Rattle.names.proofs.BoolLaws.{and_right, and3, and4, and5}

module _ (w : List ℕ) (l : Layout) (e : words_good w l ≡ true) where
  groups : (types_good w l ≡ true) × (fields_good w l ≡ true) × (arguments_good w l ≡ true) × (lists_good w l ≡ true) × (roots_good w l ≡ true)
  unfolding words_good
  groups = and5 (types_good w l) (fields_good w l) (arguments_good w l) (lists_good w l) (roots_good w l) e

  pub type_columns : (below w (type_names l) l.names ≡ true) × (below w (type_kinds l) 6 ≡ true) × (below w (type_flags l) 2 ≡ true)
  unfolding types_good
  type_columns = and3 (below w (type_names l) l.names) (below w (type_kinds l) 6) (below w (type_flags l) 2) groups.0

  pub field_columns : (below w (field_names l) l.names ≡ true) × (below w (field_types l) l.names ≡ true) × (wraps_good w (field_wraps l) ≡ true) × (below w (field_defaults l) 2 ≡ true)
  unfolding fields_good
  field_columns = and4 (below w (field_names l) l.names) (below w (field_types l) l.names) (wraps_good w (field_wraps l)) (below w (field_defaults l) 2) groups.1

  pub argument_columns : (below w (argument_names l) l.names ≡ true) × (below w (argument_types l) l.names ≡ true) × (wraps_good w (argument_wraps l) ≡ true) × (below w (argument_defaults l) 2 ≡ true)
  unfolding arguments_good
  argument_columns = and4 (below w (argument_names l) l.names) (below w (argument_types l) l.names) (wraps_good w (argument_wraps l)) (below w (argument_defaults l) 2) groups.2

  pub list_columns : (below w (edge_names l) l.names ≡ true) × (below w (member_names l) l.names ≡ true) × (below w (value_names l) l.names ≡ true)
  unfolding lists_good
  list_columns = and3 (below w (edge_names l) l.names) (below w (member_names l) l.names) (below w (value_names l) l.names) groups.3

  pub roots_good_lem : roots_good w l ≡ true
  roots_good_lem = groups.4

pub rows_words : (w : List ℕ) (l : Layout) → rows_good w l ≡ true → words_good w l ≡ true
unfolding rows_good
rows_words w l e =
    (and3 (words_good w l) (sections_all_fit w l) (fields_all_fit w l) (and_right (all_ends_good w l) (words_good w l && sections_all_fit w l && fields_all_fit w l) e)).0

module _ {w : List ℕ} {l : Layout} (laid : Laid w l) (e : rows_good w l ≡ true) where
  names_below : (c : Column) → below w c l.names ≡ true → AllBelow w c most_names
  names_below c h i k = let b = below_at w c l.names h i k in omega (arith, laid.names_most)

  pub type_names_below : AllBelow w (type_names l) most_names
  type_names_below = names_below (type_names l) (type_columns w l (rows_words w l e)).0

  pub edge_names_below : AllBelow w (edge_names l) most_names
  edge_names_below = names_below (edge_names l) (list_columns w l (rows_words w l e)).0

  pub field_names_below : AllBelow w (field_names l) most_names
  field_names_below = names_below (field_names l) (field_columns w l (rows_words w l e)).0

  pub member_names_below : AllBelow w (member_names l) most_names
  member_names_below = names_below (member_names l) (list_columns w l (rows_words w l e)).1

  pub value_names_below : AllBelow w (value_names l) most_names
  value_names_below = names_below (value_names l) (list_columns w l (rows_words w l e)).2
