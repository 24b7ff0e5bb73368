-- What a layout tells: each column lies within the table; and when the header, the limits and the length are right, all of it.
use mathlib.Core.Path.{◌≡◌}
use mathlib.Core.List.{List}
use Prim.Native.Nat.{ℕ, ◌+◌, ◌<◌}
use native.Mathlib.Omega.{arith}
use Rattle.table.specs.declared.layout.Layout.{Layout}
use Rattle.table.specs.Layout.{root_words, type_words, field_words, argument_words, table_length, layout_of, Inside, Laid, InRange, name_starts, name_lengths, type_column, edge_names, field_column, argument_column, member_names, value_names, roots, types_at, edges_at, fields_at, arguments_at, members_at, values_at, roots_at}

module _ {w : List ℕ} {l : Layout} (laid : Laid w l) where
  pub in_range : InRange l
  in_range = omega arith

  pub inside_starts : Inside w (name_starts l)
  inside_starts i h = omega arith

  pub inside_lengths : Inside w (name_lengths l)
  inside_lengths i h = omega arith

  pub inside_type : (k : ℕ) → k < type_words → Inside w (type_column l k)
  inside_type k b i h = omega arith

  pub inside_edges : Inside w (edge_names l)
  inside_edges i h = omega arith

  pub inside_field : (k : ℕ) → k < field_words → Inside w (field_column l k)
  inside_field k b i h = omega arith

  pub inside_argument : (k : ℕ) → k < argument_words → Inside w (argument_column l k)
  inside_argument k b i h = omega arith

  pub inside_members : Inside w (member_names l)
  inside_members i h = omega arith

  pub inside_values : Inside w (value_names l)
  inside_values i h = omega arith

  pub inside_roots : Inside w (roots l)
  inside_roots i h = omega arith

-- the formula of document 01 is where the roots end
module _ (w : List ℕ) where
  pub roots_end : roots_at w + root_words ≡ table_length (layout_of w)
  unfolding roots_at values_at members_at arguments_at fields_at edges_at types_at
  roots_end = omega arith
