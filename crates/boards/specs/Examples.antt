-- The tables of the boards, by their rows.
use Rattle.std.specs.Prelude.{List, ◌∷◌, [], ◌++◌, ℕ}
use Rattle.table.specs.Kinds.{scalar, object, input_object}
use Rattle.table.specs.Layout.{none}
use Rattle.table.specs.Tables.{name_row, type_row, field_row, argument_row, roots_row, no_roots, Sections, no_rows, table_of}
use Rattle.records.specs.Records.{each}
use Rattle.building.specs.Building.{counts_row}
use Rattle.shapes.specs.Shapes.{letter_names}

-- scalars and nothing else, so many, whose names are two letters each
abbrev pub scalar_types : ℕ → List ℕ
scalar_types types = each (λ i. type_row i scalar 0 0 0 0 0) types

abbrev pub scalars_table : ℕ → List ℕ
scalars_table types =
    ((counts_row (record { names = types; types = types; edges = 0; fields = 0; arguments = 0; members = 0; values = 0 }) ++ letter_names types) ++ scalar_types types) ++ no_roots

-- nothing but the counts and the roots
abbrev pub empty_table : List ℕ
empty_table = table_of no_rows

-- type Query { a(x: ID, x: ID, x: ID): ID }; the text is IDQueryax
abbrev pub arguments_rows : Sections
arguments_rows = record {
  names = name_row 0 2 ∷ name_row 2 5 ∷ name_row 7 1 ∷ name_row 8 1 ∷ [];
  types = type_row 1 object 0 0 1 0 0 ∷ [];
  edges = [];
  fields = field_row 2 0 0 3 0 ∷ [];
  arguments = argument_row 3 0 0 0 ∷ argument_row 3 0 0 0 ∷ argument_row 3 0 0 0 ∷ [];
  members = [];
  values = [];
  roots = roots_row 1 none none;
}

-- input A { b: B! }, input B { a: A! }, scalar S; the text is ABSab
abbrev pub ring_rows : Sections
ring_rows = record {
  names = name_row 0 1 ∷ name_row 1 1 ∷ name_row 2 1 ∷ name_row 3 1 ∷ name_row 4 1 ∷ [];
  types = type_row 0 input_object 0 0 1 0 0 ∷ type_row 1 input_object 0 0 2 0 0 ∷ type_row 2 scalar 0 0 2 0 0 ∷ [];
  edges = [];
  fields = field_row 4 1 16 0 0 ∷ field_row 3 0 16 0 0 ∷ [];
  arguments = [];
  members = [];
  values = [];
  roots = no_roots;
}
