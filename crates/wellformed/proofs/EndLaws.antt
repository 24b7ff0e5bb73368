-- Good rows have good ends, column by column.
use mathlib.Core.Path.{◌≡◌}
use mathlib.Core.Bool.{Bool, true, ◌&&◌}
use mathlib.Core.List.{List}
use Prim.Native.Nat.{ℕ}
use Rattle.table.specs.declared.layout.Layout.{Layout}
use Rattle.table.specs.Layout.{edges_ends, fields_ends, members_ends, values_ends, arguments_ends}
use Rattle.wellformed.specs.WellFormed.{ends_good, all_ends_good, words_good, sections_all_fit, fields_all_fit, rows_good}
use Rattle.names.proofs.BoolLaws.{and_left, and_right}

-- the five columns of ends, one by one
module _ (w : List ℕ) (l : Layout) (e : all_ends_good w l ≡ true) where
  abbrev i : Bool
  i = ends_good w (edges_ends l) l.edges

  abbrev f : Bool
  f = ends_good w (fields_ends l) l.fields

  abbrev m : Bool
  m = ends_good w (members_ends l) l.members

  abbrev v : Bool
  v = ends_good w (values_ends l) l.values

  abbrev a : Bool
  a = ends_good w (arguments_ends l) l.arguments

  pub edges_ends_lem : i ≡ true
  unfolding all_ends_good
  edges_ends_lem = and_left i f (and_left (i && f) m (and_left (i && f && m) v (and_left (i && f && m && v) a e)))

  pub fields_ends_lem : f ≡ true
  unfolding all_ends_good
  fields_ends_lem = and_right i f (and_left (i && f) m (and_left (i && f && m) v (and_left (i && f && m && v) a e)))

  pub members_ends_lem : m ≡ true
  unfolding all_ends_good
  members_ends_lem = and_right (i && f) m (and_left (i && f && m) v (and_left (i && f && m && v) a e))

  pub values_ends_lem : v ≡ true
  unfolding all_ends_good
  values_ends_lem = and_right (i && f && m) v (and_left (i && f && m && v) a e)

  pub arguments_ends_lem : a ≡ true
  unfolding all_ends_good
  arguments_ends_lem = and_right (i && f && m && v) a e

pub rows_ends : (w : List ℕ) (l : Layout) → rows_good w l ≡ true → all_ends_good w l ≡ true
unfolding rows_good
rows_ends w l e = and_left (all_ends_good w l) (words_good w l && sections_all_fit w l && fields_all_fit w l) e
