-- The rows of a type, and the arguments of a field, as parts of the table's words; and the words of a row in such a part.
use Rattle.std.specs.Prelude.{List, ℕ, ◌+◌, ◌*◌, ◌/◌, length, get_or, eqb}
use Rattle.names.specs.Count.{part}
use Rattle.table.specs.declared.layout.Column.{Column}
use Rattle.table.specs.Layout.{layout_of, word_at, start_at, field_words, argument_words, edge_names, edges_ends, field_names, fields_ends, member_names, members_ends, value_names, values_ends, argument_names, arguments_ends}
use Rattle.rows.specs.Search.{find}

-- the words of the rows that belong to row i: `first` is the first column of their section, and `ends` cuts it
unfoldable pub run_of : List ℕ → Column → Column → ℕ → List ℕ
run_of w first ends i = part w (first.base + first.width * start_at w ends i) (first.base + first.width * word_at w ends i)

-- the edges, fields, members and values of type t
unfoldable pub edges_of : List ℕ → ℕ → List ℕ
edges_of w t = run_of w (edge_names (layout_of w)) (edges_ends (layout_of w)) t

unfoldable pub fields_of : List ℕ → ℕ → List ℕ
fields_of w t = run_of w (field_names (layout_of w)) (fields_ends (layout_of w)) t

unfoldable pub members_of : List ℕ → ℕ → List ℕ
members_of w t = run_of w (member_names (layout_of w)) (members_ends (layout_of w)) t

unfoldable pub values_of : List ℕ → ℕ → List ℕ
values_of w t = run_of w (value_names (layout_of w)) (values_ends (layout_of w)) t

-- the arguments of field f
unfoldable pub arguments_of : List ℕ → ℕ → List ℕ
arguments_of w f = run_of w (argument_names (layout_of w)) (arguments_ends (layout_of w)) f

-- how many edges, members and values stand in a part, and the name of a part's row i
abbrev pub edge_rows : List ℕ → ℕ
edge_rows p = length p

abbrev pub edge_name_in : List ℕ → ℕ → ℕ
edge_name_in p i = get_or p i 0

abbrev pub member_rows : List ℕ → ℕ
member_rows p = length p

abbrev pub member_name_in : List ℕ → ℕ → ℕ
member_name_in p i = get_or p i 0

abbrev pub value_rows : List ℕ → ℕ
value_rows p = length p

abbrev pub value_name_in : List ℕ → ℕ → ℕ
value_name_in p i = get_or p i 0

-- how many fields stand in a part
abbrev pub field_rows : List ℕ → ℕ
field_rows p = length p / field_words

-- the name, the type's name and the wrap of a part's field i
abbrev pub field_name_in : List ℕ → ℕ → ℕ
field_name_in p i = get_or p (field_words * i) 0

abbrev pub field_type_in : List ℕ → ℕ → ℕ
field_type_in p i = get_or p (field_words * i + 1) 0

abbrev pub field_wrap_in : List ℕ → ℕ → ℕ
field_wrap_in p i = get_or p (field_words * i + 2) 0

-- how many arguments stand in a part
abbrev pub argument_rows : List ℕ → ℕ
argument_rows p = length p / argument_words

-- the name, the type's name, the wrap and the default of a part's argument i
abbrev pub argument_name_in : List ℕ → ℕ → ℕ
argument_name_in p i = get_or p (argument_words * i) 0

abbrev pub argument_type_in : List ℕ → ℕ → ℕ
argument_type_in p i = get_or p (argument_words * i + 1) 0

abbrev pub argument_wrap_in : List ℕ → ℕ → ℕ
argument_wrap_in p i = get_or p (argument_words * i + 2) 0

abbrev pub argument_default_in : List ℕ → ℕ → ℕ
argument_default_in p i = get_or p (argument_words * i + 3) 0

-- where the field of the name stands in a part, or how many there are
unfoldable pub field_named : List ℕ → ℕ → ℕ
field_named p n = find (λ i. eqb (field_name_in p i) n) 0 (field_rows p)

-- where the first argument of the name stands in a part, or how many there are
unfoldable pub argument_named : List ℕ → ℕ → ℕ
argument_named p n = find (λ i. eqb (argument_name_in p i) n) 0 (argument_rows p)
