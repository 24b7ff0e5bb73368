-- The schemas of the incident, by their rows. The text is BoardIDQueryWhiteboardboardroom.
use Rattle.std.specs.Prelude.{List, ◌∷◌, [], ◌++◌, ℕ}
use Rattle.table.specs.Kinds.{object, interface}
use Rattle.table.specs.Layout.{none}
use Rattle.table.specs.Tables.{name_row, type_row, edge_row, field_row, argument_row, roots_row, Sections, table_of, in_row}
use Rattle.building.specs.Building.{counts_row}

-- the fields board of Whiteboard, of Board and of Query; Whiteboard's takes one argument, and Board's end there
abbrev pub field_rows : ℕ → List (List ℕ)
field_rows end = field_row 4 1 0 1 0 ∷ field_row 4 1 0 end 0 ∷ field_row 4 0 0 end 0 ∷ []

-- room: ID!
abbrev pub room : List ℕ
room = argument_row 5 1 16 0

-- interface Whiteboard, type Board implements Whiteboard, type Query
abbrev pub schema : (end : ℕ) (arguments : List (List ℕ)) → Sections
schema end arguments = record {
  names = name_row 0 5 ∷ name_row 5 2 ∷ name_row 7 5 ∷ name_row 12 10 ∷ name_row 22 5 ∷ name_row 27 4 ∷ [];
  types = type_row 3 interface 0 0 1 0 0 ∷ type_row 0 object 0 1 2 0 0 ∷ type_row 2 object 0 1 3 0 0 ∷ [];
  edges = edge_row 3 ∷ [];
  fields = field_rows end;
  arguments = arguments;
  members = [];
  values = [];
  roots = roots_row 2 none none;
}

-- Board has dropped the argument
abbrev pub composed_words : List ℕ
composed_words = table_of (schema 1 (room ∷ []))

-- and has it again
abbrev pub repaired_words : List ℕ
repaired_words = table_of (schema 2 (room ∷ room ∷ []))

-- what both have in common: all before the arguments, of which there are so many
abbrev pub before_arguments : ℕ → List ℕ
before_arguments n =
    counts_row (record { names = 6; types = 3; edges = 1; fields = 3; arguments = n; members = 0; values = 0 }) ++ in_row (schema n []).names ++ in_row (schema n []).types
    ++ in_row (schema n []).edges ++ in_row (field_rows n)
