-- Document 01, "Refusal numbers": the tests of the table's refusals, in their order and words. Each reads the words w by their
-- layout l.
use Rattle.std.specs.Prelude.{Bool, ◌&&◌, ◌||◌, true, false, List, ℕ, length, leb, ltb, eqb}
use Rattle.table.specs.declared.layout.Layout.{Layout}
use Rattle.table.specs.declared.layout.Column.{Column}
use Rattle.names.specs.Count.{every}
use Rattle.table.specs.Kinds.{kinds, owns_edges, owns_fields, owns_members, owns_values, takes_arguments, takes_default}
use Rattle.table.specs.Refusals.{too_few_words, above_limit, wrong_length, bad_names, bad_word, twice}
use Rattle.table.specs.Layout.{header_words, most_names, most_types, most_edges, most_fields, most_arguments, most_members, most_values, most_text, table_length, none, layout_of, word_at, start_at, empty, type_names, type_kinds, type_flags, edges_ends, fields_ends, members_ends, values_ends, edge_names, field_names, field_types, field_wraps, arguments_ends, field_defaults, argument_names, argument_types, argument_wraps, argument_defaults, member_names, value_names, roots}
-- the tests of the name section (4), and of columns (5 and 6), are handed on from where they stand
pub use Rattle.name_section.specs.NameSection.{name_end, bytes_of, names_good, names_rise}
unfoldable pub use Rattle.name_section.specs.NameSection.{name_good, name_rises, names_right}
unfoldable pub use Rattle.columns.specs.Columns.{below, wraps_good, ends_good, fresh, distinct}

-- 1: the header is there
abbrev pub has_header : List ℕ → Bool
has_header w = leb header_words (length w)

-- 2: the counts and the text keep their limits
unfoldable pub in_limits : List ℕ → Layout → Bool
in_limits text l =
    leb l.names most_names
    && leb l.types most_types
    && leb l.edges most_edges
    && leb l.fields most_fields
    && leb l.arguments most_arguments
    && leb l.members most_members
    && leb l.values most_values
    && leb (length text) most_text

-- 3: the length is 10 + 2N + 7T + I + 5F + 4A + M + V
unfoldable pub right_length : List ℕ → Layout → Bool
right_length w l = eqb (length w) (table_length l)

-- the root of an operation is a name or NONE
unfoldable pub root_good : List ℕ → Layout → ℕ → Bool
root_good w l op = ltb (word_at w (roots l) op) l.names || eqb (word_at w (roots l) op) none

-- 5, the roots: query, mutation, subscription
unfoldable pub roots_good : List ℕ → Layout → Bool
roots_good w l = root_good w l 0 && root_good w l 1 && root_good w l 2

-- 5, the words of types: names, kinds, flags
unfoldable pub types_good : List ℕ → Layout → Bool
types_good w l = below w (type_names l) l.names && below w (type_kinds l) kinds && below w (type_flags l) 2

-- 5, the ends: of edges, fields, members, values by type, and of arguments by field
unfoldable pub all_ends_good : List ℕ → Layout → Bool
all_ends_good w l =
    ends_good w (edges_ends l) l.edges
    && ends_good w (fields_ends l) l.fields
    && ends_good w (members_ends l) l.members
    && ends_good w (values_ends l) l.values
    && ends_good w (arguments_ends l) l.arguments

-- 5, the words of fields: names, type names, wraps, defaults
unfoldable pub fields_good : List ℕ → Layout → Bool
fields_good w l =
    below w (field_names l) l.names
    && below w (field_types l) l.names
    && wraps_good w (field_wraps l)
    && below w (field_defaults l) 2

-- 5, the words of arguments: names, type names, wraps, defaults
unfoldable pub arguments_good : List ℕ → Layout → Bool
arguments_good w l =
    below w (argument_names l) l.names
    && below w (argument_types l) l.names
    && wraps_good w (argument_wraps l)
    && below w (argument_defaults l) 2

-- 5, the names of edges, members and values
unfoldable pub lists_good : List ℕ → Layout → Bool
lists_good w l = below w (edge_names l) l.names && below w (member_names l) l.names && below w (value_names l) l.names

-- 5: edges on kinds 1 and 2 alone, fields on 1, 2 and 5, members on 3, values on 4
unfoldable pub sections_fit : List ℕ → Layout → ℕ → Bool
sections_fit w l t =
    let k = word_at w (type_kinds l) t in
    (owns_edges k || empty w (edges_ends l) t)
    && (owns_fields k || empty w (fields_ends l) t)
    && (owns_members k || empty w (members_ends l) t)
    && (owns_values k || empty w (values_ends l) t)

-- 5: a field of a type of kind k has arguments on kinds 1 and 2 alone, and a default of 1 on kind 5 alone
unfoldable pub field_fits : List ℕ → Layout → ℕ → ℕ → Bool
field_fits w l k f = (takes_arguments k || empty w (arguments_ends l) f) && (takes_default k || eqb (word_at w (field_defaults l) f) 0)

-- 5: the fields of type t
unfoldable pub fields_fit : List ℕ → Layout → ℕ → Bool
fields_fit w l t = every (field_fits w l (word_at w (type_kinds l) t)) (start_at w (fields_ends l) t) (word_at w (fields_ends l) t)

-- 5: the types, and the fields of all types
unfoldable pub sections_all_fit : List ℕ → Layout → Bool
sections_all_fit w l = every (sections_fit w l) 0 l.types

unfoldable pub fields_all_fit : List ℕ → Layout → Bool
fields_all_fit w l = every (fields_fit w l) 0 l.types

-- 5: all that concerns one word
unfoldable pub words_good : List ℕ → Layout → Bool
words_good w l = types_good w l && fields_good w l && arguments_good w l && lists_good w l && roots_good w l

-- 5: words in their ranges, ends that rise to their counts, and rows on the kinds that may own them
unfoldable pub rows_good : List ℕ → Layout → Bool
rows_good w l = all_ends_good w l && (words_good w l && sections_all_fit w l && fields_all_fit w l)

-- no name of type t stands twice; `ends` cuts the rows of `names` by type
unfoldable pub run_distinct : List ℕ → Column → Column → ℕ → Bool
run_distinct w names ends t = distinct w names (start_at w ends t) (word_at w ends t)

-- 6: within type t no edge, field, member or value name stands twice
unfoldable pub rows_distinct : List ℕ → Layout → ℕ → Bool
rows_distinct w l t =
    run_distinct w (edge_names l) (edges_ends l) t
    && run_distinct w (field_names l) (fields_ends l) t
    && run_distinct w (member_names l) (members_ends l) t
    && run_distinct w (value_names l) (values_ends l) t

unfoldable pub rows_all_distinct : List ℕ → Layout → Bool
rows_all_distinct w l = every (rows_distinct w l) 0 l.types

-- 6: no type name stands twice, and no name within one list of a type
unfoldable pub names_distinct : List ℕ → Layout → Bool
names_distinct w l = distinct w (type_names l) 0 l.types && rows_all_distinct w l

-- n where the test fails, and else what follows
abbrev pub unless : Bool → ℕ → ℕ → ℕ
unless true n next = next
unless false n next = n

-- names and rows, of a table that keeps its limits and has the right length
unfoldable pub refusal_laid : List ℕ → List ℕ → Layout → ℕ
refusal_laid text w l = unless (names_right text w l) bad_names (unless (rows_good w l) bad_word (unless (names_distinct w l) twice 0))

-- the table's refusals, in their order: 0 for a text and a table that are well-formed, or the first number whose condition is met
unfoldable pub refusal : List ℕ → List ℕ → ℕ
refusal text w =
    let l = layout_of w in
    unless (has_header w) too_few_words (unless (in_limits text l) above_limit (unless (right_length w l) wrong_length (refusal_laid text w l)))
