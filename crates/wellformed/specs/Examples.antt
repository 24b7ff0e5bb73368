-- Worked examples of the definitions, by computation.
use Rattle.std.specs.Prelude.{◌≡◌, refl, List, ◌∷◌, [], ◌++◌, ℕ, ◌+◌, ◌*◌, length, take, replicate}
use Rattle.std.proofs.Common.{arith}
use Rattle.names.specs.Count.{every}
use Rattle.names.specs.Names.{starts_name, continues_name, is_name, before}
use Rattle.names.specs.Wraps.{layers, bits, good_wrap}
use Rattle.table.specs.declared.layout.Layout.{Layout}
use Rattle.table.specs.Kinds.{scalar, object, interface, union, enum, input_object, input_object_kind}
use Rattle.table.specs.Layout.{none, table_length, name_count, type_count, edge_count, field_count, argument_count, member_count, value_count, types_at, edges_at, fields_at, arguments_at, members_at, values_at, roots_at, word_at, start_at}
use Rattle.wellformed.specs.WellFormed.{in_limits, right_length, name_good, name_rises, names_right, below, wraps_good, ends_good, root_good, roots_good, types_good, all_ends_good, fields_good, arguments_good, lists_good, sections_fit, field_fits, fields_fit, sections_all_fit, fields_all_fit, words_good, rows_good, fresh, distinct, run_distinct, rows_distinct, rows_all_distinct, names_distinct, refusal_laid, refusal}
use Rattle.table.specs.Tables.{name_row, type_row, edge_row, field_row, argument_row, member_row, value_row, roots_row, no_roots, Sections, no_rows, table_of}

-- document 01, "Whole case": the text BoardIDNodeid
abbrev pub board_text : List ℕ
board_text = 66 ∷ 111 ∷ 97 ∷ 114 ∷ 100 ∷ 73 ∷ 68 ∷ 78 ∷ 111 ∷ 100 ∷ 101 ∷ 105 ∷ 100 ∷ []

-- and the table: interface Node { id: ID! }, type Board implements Node { id: ID }
abbrev pub board_rows : Sections
board_rows = record {
  names = name_row 0 5 ∷ name_row 5 2 ∷ name_row 7 4 ∷ name_row 11 2 ∷ [];
  types = type_row 2 interface 0 0 1 0 0 ∷ type_row 0 object 0 1 2 0 0 ∷ [];
  edges = edge_row 2 ∷ [];
  fields = field_row 3 1 16 0 0 ∷ field_row 3 1 0 0 0 ∷ [];
  arguments = [];
  members = [];
  values = [];
  roots = no_roots;
}

abbrev pub board_words : List ℕ
board_words = table_of board_rows

board_length : length board_words ≡ 43
board_length = refl

-- with every definition open
computes : List ℕ → List ℕ → ℕ
unfolding input_object_kind refusal refusal_laid in_limits right_length name_good name_rises names_right below wraps_good ends_good root_good roots_good types_good all_ends_good fields_good arguments_good lists_good sections_fit field_fits fields_fit sections_all_fit fields_all_fit words_good rows_good fresh distinct run_distinct rows_distinct rows_all_distinct names_distinct every starts_name continues_name is_name before layers bits good_wrap name_count type_count edge_count field_count argument_count member_count value_count types_at edges_at fields_at arguments_at members_at values_at roots_at word_at start_at
computes text w = refusal text w

-- the board is well-formed
board : refusal board_text board_words ≡ 0
unfolding computes
board = refl

-- document 01's length formula
formula : (l : Layout) → table_length l ≡ 10 + 2 * l.names + 7 * l.types + l.edges + 5 * l.fields + 4 * l.arguments + l.members + l.values
formula l = omega arith

-- nothing at all: no names, no types, no roots
abbrev nothing : List ℕ
nothing = table_of no_rows

-- the counts alone are others
abbrev counted : (names types edges fields arguments : ℕ) → List ℕ
counted names types edges fields arguments = names ∷ types ∷ edges ∷ fields ∷ arguments ∷ 0 ∷ 0 ∷ no_roots

-- the interface of the board as an input object, whose field has that default
abbrev input_board : ℕ → List ℕ
input_board default = table_of (record {
  names = board_rows.names;
  types = type_row 2 input_object 0 0 1 0 0 ∷ type_row 0 object 0 1 2 0 0 ∷ [];
  edges = board_rows.edges;
  fields = field_row 3 1 16 0 default ∷ field_row 3 1 0 0 0 ∷ [];
  arguments = [];
  members = [];
  values = [];
  roots = no_roots;
})

well_formed : (refusal [] nothing ≡ 0) × (refusal board_text (input_board 0) ≡ 0) × (refusal board_text (input_board 1) ≡ 0)
unfolding computes
well_formed =
    -- nothing at all; the interface as an input object, which may own its field; and that field with a default
    (refl, refl, refl)

refused_1 : (refusal [] [] ≡ 1) × (refusal [] (take 6 nothing) ≡ 1) × (refusal (replicate 65537 65) (take 6 nothing) ≡ 1)
unfolding computes
refused_1 =
    -- no words; six words; six words with a text above its limit
    (refl, refl, refl)

refused_2 : (refusal [] (counted 4097 0 0 0 0) ≡ 2) × (refusal [] (counted 0 1025 0 0 0) ≡ 2) × (refusal [] (counted 0 0 0 8193 0) ≡ 2)
    × (refusal [] (counted 0 0 0 0 16385) ≡ 2) × (refusal (replicate 65537 65) nothing ≡ 2)
unfolding computes
refused_2 =
    -- one name, type, field or argument too many; one byte too many
    (refl, refl, refl, refl, refl)

refused_3 : (refusal [] (take 9 nothing) ≡ 3) × (refusal [] (nothing ++ none ∷ []) ≡ 3) × (refusal [] (counted 0 0 1 0 0) ≡ 3)
unfolding computes
refused_3 =
    -- a word too few; a word too many; an edge that is counted and not there
    (refl, refl, refl)

-- names and nothing else
abbrev only_names : List (List ℕ) → List ℕ
only_names names = table_of (record { names = names; types = []; edges = []; fields = []; arguments = []; members = []; values = []; roots = no_roots })

abbrev one_name : ℕ → ℕ → List ℕ
one_name start length = only_names (name_row start length ∷ [])

abbrev two_names : ℕ → ℕ → ℕ → ℕ → List ℕ
two_names start length start2 length2 = only_names (name_row start length ∷ name_row start2 length2 ∷ [])

refused_4 : (refusal [] (one_name 0 1) ≡ 4) × (refusal (65 ∷ []) (one_name 0 0) ≡ 4) × (refusal (49 ∷ []) (one_name 0 1) ≡ 4)
    × (refusal (66 ∷ 65 ∷ []) (two_names 0 1 1 1) ≡ 4) × (refusal (65 ∷ []) (two_names 0 1 0 1) ≡ 4)
    × (refusal (65 ∷ 66 ∷ []) (two_names 0 2 0 1) ≡ 4) × (refusal (65 ∷ 66 ∷ []) (two_names 0 1 0 2) ≡ 0)
unfolding computes
refused_4 =
    -- outside the text; empty; `1`; B before A; A twice; AB before its prefix A, and the other way round, which is right
    (refl, refl, refl, refl, refl, refl, refl)

-- the text A is the one name of the tables below
abbrev A : List ℕ
A = 65 ∷ []

-- these rows, and no roots
abbrev rows_of : (types edges fields arguments members values : List (List ℕ)) → List ℕ
rows_of types edges fields arguments members values =
    table_of (record { names = name_row 0 1 ∷ []; types = types; edges = edges; fields = fields; arguments = arguments; members = members; values = values; roots = no_roots })

-- one type: its name, kind, flag and edges end
abbrev one_type : ℕ → ℕ → ℕ → ℕ → List ℕ
one_type name kind flag end = rows_of (type_row name kind flag end 0 0 0 ∷ []) [] [] [] [] []

-- a type of that kind with one field of its own type: the field's wrap, arguments end and default
abbrev one_field : ℕ → ℕ → ℕ → ℕ → List ℕ
one_field kind wrap end default = rows_of (type_row 0 kind 0 0 1 0 0 ∷ []) [] (field_row 0 0 wrap end default ∷ []) [] [] []

-- that field with one argument of that default
abbrev one_argument : ℕ → ℕ → List ℕ
one_argument kind default = rows_of (type_row 0 kind 0 0 1 0 0 ∷ []) [] (field_row 0 0 0 1 0 ∷ []) (argument_row 0 0 0 default ∷ []) [] []

-- a scalar, and a query of that name number
abbrev queried : ℕ → List ℕ
queried query = table_of (record {
  names = name_row 0 1 ∷ [];
  types = type_row 0 scalar 0 0 0 0 0 ∷ [];
  edges = [];
  fields = [];
  arguments = [];
  members = [];
  values = [];
  roots = roots_row query none none;
})

good_rows : (refusal A (one_type 0 scalar 1 0) ≡ 0) × (refusal A (one_field object 49 0 0) ≡ 0) × (refusal A (one_field input_object 16 0 1) ≡ 0)
    × (refusal A (one_argument object 1) ≡ 0) × (refusal A (queried 0) ≡ 0)
unfolding computes
good_rows = (refl, refl, refl, refl, refl)

refused_5_words : (refusal A (one_type 1 scalar 0 0) ≡ 5) × (refusal A (one_type 0 6 0 0) ≡ 5) × (refusal A (one_type 0 scalar 2 0) ≡ 5)
    × (refusal A (one_field object 32 0 0) ≡ 5) × (refusal A (one_field input_object 0 0 2) ≡ 5) × (refusal A (queried 1) ≡ 5)
unfolding computes
refused_5_words =
    -- a name, a kind, a flag, a wrap, a default, a root that is none
    (refl, refl, refl, refl, refl, refl)

-- the board whose type rows end the edges there
abbrev board_ending : ℕ → List ℕ
board_ending end = table_of (record {
  names = board_rows.names;
  types = type_row 2 interface 0 0 1 0 0 ∷ type_row 0 object 0 end 2 0 0 ∷ [];
  edges = board_rows.edges;
  fields = board_rows.fields;
  arguments = [];
  members = [];
  values = [];
  roots = no_roots;
})

refused_5_ends : (refusal A (one_type 0 object 0 1) ≡ 5) × (refusal A (one_field object 0 1 0) ≡ 5)
    × (refusal A (rows_of [] (edge_row 0 ∷ []) [] [] [] []) ≡ 5) × (refusal board_text (board_ending 0) ≡ 5) × (refusal board_text (board_ending 1) ≡ 0)
unfolding computes
refused_5_ends =
    -- an end beyond its section; the same of arguments; an edge with no type to own it; the last end below its count, and at it, which is right
    (refl, refl, refl, refl, refl)

refused_5_kinds : (refusal A (one_field enum 0 0 0) ≡ 5) × (refusal A (one_field object 0 0 1) ≡ 5) × (refusal A (one_argument input_object 0) ≡ 5)
unfolding computes
refused_5_kinds =
    -- a field of an enum; a default on a field of an object; an argument on a field of an input object
    (refl, refl, refl)

-- a type that owns two rows of one name: edges, fields, members or values
abbrev two_edges : List ℕ
two_edges = rows_of (type_row 0 object 0 2 0 0 0 ∷ []) (edge_row 0 ∷ edge_row 0 ∷ []) [] [] [] []

abbrev two_fields : List ℕ
two_fields = rows_of (type_row 0 object 0 0 2 0 0 ∷ []) [] (field_row 0 0 0 0 0 ∷ field_row 0 0 0 0 0 ∷ []) [] [] []

abbrev two_members : List ℕ
two_members = rows_of (type_row 0 union 0 0 0 2 0 ∷ []) [] [] [] (member_row 0 ∷ member_row 0 ∷ []) []

abbrev two_values : List ℕ
two_values = rows_of (type_row 0 enum 0 0 0 0 2 ∷ []) [] [] [] [] (value_row 0 ∷ value_row 0 ∷ [])

-- two scalars of one name
abbrev two_types : List ℕ
two_types = rows_of (type_row 0 scalar 0 0 0 0 0 ∷ type_row 0 scalar 0 0 0 0 0 ∷ []) [] [] [] [] []

-- a field with two arguments of one name, which may repeat
abbrev two_arguments : List ℕ
two_arguments = rows_of (type_row 0 object 0 0 1 0 0 ∷ []) [] (field_row 0 0 0 2 0 ∷ []) (argument_row 0 0 0 0 ∷ argument_row 0 0 0 0 ∷ []) [] []

refused_6 : (refusal A two_types ≡ 6) × (refusal A two_edges ≡ 6) × (refusal A two_fields ≡ 6) × (refusal A two_members ≡ 6) × (refusal A two_values ≡ 6)
    × (refusal A two_arguments ≡ 0)
unfolding computes
refused_6 = (refl, refl, refl, refl, refl, refl)
