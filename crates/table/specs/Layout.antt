-- Document 01, "The schema table": where each count, section, row and word of a table stands. Only this file knows the limits, the
-- widths of rows and the order of sections. It has the place of each word in its row too; crates/rows says it again for the rows of a part.
use Rattle.std.specs.Prelude.{◌≡◌, List, ℕ, zero, suc, ◌+◌, ◌*◌, ◌^◌, ◌≤◌, ◌<◌, Bool, length, get_or, eqb}
use Rattle.table.specs.declared.layout.Layout.{Layout}
use Rattle.table.specs.declared.layout.Column.{Column}
use Rattle.names.specs.Count.{part}

-- what stands for no name, in a root
abbrev pub none : ℕ
none = 4294967295

-- the words of the header: seven counts
abbrev pub header_words : ℕ
header_words = 7

-- the words of the roots: query, mutation, subscription
abbrev pub root_words : ℕ
root_words = 3

-- the words of a row of each section
abbrev pub name_words : ℕ
name_words = 2

abbrev pub type_words : ℕ
type_words = 7

abbrev pub edge_words : ℕ
edge_words = 1

abbrev pub field_words : ℕ
field_words = 5

abbrev pub argument_words : ℕ
argument_words = 4

abbrev pub member_words : ℕ
member_words = 1

abbrev pub value_words : ℕ
value_words = 1

-- the most rows of each section, and the most bytes of the text
abbrev pub most_names : ℕ
most_names = 4096

abbrev pub most_types : ℕ
most_types = 1024

abbrev pub most_edges : ℕ
most_edges = 4096

abbrev pub most_fields : ℕ
most_fields = 8192

abbrev pub most_arguments : ℕ
most_arguments = 16384

abbrev pub most_members : ℕ
most_members = 4096

abbrev pub most_values : ℕ
most_values = 4096

abbrev pub most_text : ℕ
most_text = 65536

-- the most rows of a section that is names alone: of edges, members or values
abbrev pub most_listed : ℕ
most_listed = 4096

-- the counts, in the header's order: N T I F A M V
unfoldable pub name_count : List ℕ → ℕ
name_count w = get_or w 0 0

unfoldable pub type_count : List ℕ → ℕ
type_count w = get_or w 1 0

unfoldable pub edge_count : List ℕ → ℕ
edge_count w = get_or w 2 0

unfoldable pub field_count : List ℕ → ℕ
field_count w = get_or w 3 0

unfoldable pub argument_count : List ℕ → ℕ
argument_count w = get_or w 4 0

unfoldable pub member_count : List ℕ → ℕ
member_count w = get_or w 5 0

unfoldable pub value_count : List ℕ → ℕ
value_count w = get_or w 6 0

-- where each section starts: the sections follow the header and each other in the header's order
unfoldable pub types_at : List ℕ → ℕ
types_at w = header_words + name_words * name_count w

unfoldable pub edges_at : List ℕ → ℕ
edges_at w = types_at w + type_words * type_count w

unfoldable pub fields_at : List ℕ → ℕ
fields_at w = edges_at w + edge_words * edge_count w

unfoldable pub arguments_at : List ℕ → ℕ
arguments_at w = fields_at w + field_words * field_count w

unfoldable pub members_at : List ℕ → ℕ
members_at w = arguments_at w + argument_words * argument_count w

unfoldable pub values_at : List ℕ → ℕ
values_at w = members_at w + member_words * member_count w

unfoldable pub roots_at : List ℕ → ℕ
roots_at w = values_at w + value_words * value_count w

-- the counts and the starts of the sections, all together
abbrev pub layout_of : List ℕ → Layout
layout_of w = record {
  names = name_count w;
  types = type_count w;
  edges = edge_count w;
  fields = field_count w;
  arguments = argument_count w;
  members = member_count w;
  values = value_count w;
  types_at = types_at w;
  edges_at = edges_at w;
  fields_at = fields_at w;
  arguments_at = arguments_at w;
  members_at = members_at w;
  values_at = values_at w;
  roots_at = roots_at w;
}

-- the length of a table: 10 + 2N + 7T + I + 5F + 4A + M + V
abbrev pub table_length : Layout → ℕ
table_length l =
    header_words + root_words + name_words * l.names + type_words * l.types + edge_words * l.edges + field_words * l.fields + argument_words * l.arguments + member_words * l.members + value_words * l.values

-- Columns. A column is one word of each row of a section: that of row i stands at base + width * i, and there are so many rows.

abbrev pub name_starts : Layout → Column
name_starts l = record { base = header_words; width = name_words; rows = l.names }

abbrev pub name_lengths : Layout → Column
name_lengths l = record { base = header_words + 1; width = name_words; rows = l.names }

-- a type's name, kind, flags, edges end, fields end, members end, values end
abbrev pub type_column : Layout → ℕ → Column
type_column l k = record { base = l.types_at + k; width = type_words; rows = l.types }

abbrev pub type_names : Layout → Column
type_names l = type_column l 0

abbrev pub type_kinds : Layout → Column
type_kinds l = type_column l 1

abbrev pub type_flags : Layout → Column
type_flags l = type_column l 2

abbrev pub edges_ends : Layout → Column
edges_ends l = type_column l 3

abbrev pub fields_ends : Layout → Column
fields_ends l = type_column l 4

abbrev pub members_ends : Layout → Column
members_ends l = type_column l 5

abbrev pub values_ends : Layout → Column
values_ends l = type_column l 6

-- an edge's interface name
abbrev pub edge_names : Layout → Column
edge_names l = record { base = l.edges_at; width = edge_words; rows = l.edges }

-- a field's name, type name, wrap, arguments end, default
abbrev pub field_column : Layout → ℕ → Column
field_column l k = record { base = l.fields_at + k; width = field_words; rows = l.fields }

abbrev pub field_names : Layout → Column
field_names l = field_column l 0

abbrev pub field_types : Layout → Column
field_types l = field_column l 1

abbrev pub field_wraps : Layout → Column
field_wraps l = field_column l 2

abbrev pub arguments_ends : Layout → Column
arguments_ends l = field_column l 3

abbrev pub field_defaults : Layout → Column
field_defaults l = field_column l 4

-- an argument's name, type name, wrap, default
abbrev pub argument_column : Layout → ℕ → Column
argument_column l k = record { base = l.arguments_at + k; width = argument_words; rows = l.arguments }

abbrev pub argument_names : Layout → Column
argument_names l = argument_column l 0

abbrev pub argument_types : Layout → Column
argument_types l = argument_column l 1

abbrev pub argument_wraps : Layout → Column
argument_wraps l = argument_column l 2

abbrev pub argument_defaults : Layout → Column
argument_defaults l = argument_column l 3

-- a member's name
abbrev pub member_names : Layout → Column
member_names l = record { base = l.members_at; width = member_words; rows = l.members }

-- a value's name
abbrev pub value_names : Layout → Column
value_names l = record { base = l.values_at; width = value_words; rows = l.values }

-- the roots, as a column of three
abbrev pub roots : Layout → Column
roots l = record { base = l.roots_at; width = 1; rows = root_words }

-- the word of row i in a column
unfoldable pub word_at : List ℕ → Column → ℕ → ℕ
word_at w c i = get_or w (c.base + c.width * i) 0

-- where the rows of row i start, in a column of ends: at the end of the row before it, and the first at 0
unfoldable pub start_at : List ℕ → Column → ℕ → ℕ
start_at w c zero = 0
start_at w c (suc i) = word_at w c i

-- row i has no rows in a column of ends
abbrev pub empty : List ℕ → Column → ℕ → Bool
empty w c i = eqb (start_at w c i) (word_at w c i)

-- a column lies within the table
abbrev pub Inside : List ℕ → Column → Type 0
Inside w c = (i : ℕ) → i < c.rows → c.base + c.width * i < length w

-- Accessors by row.

abbrev pub name_start : List ℕ → ℕ → ℕ
name_start w n = word_at w (name_starts (layout_of w)) n

abbrev pub name_length : List ℕ → ℕ → ℕ
name_length w n = word_at w (name_lengths (layout_of w)) n

-- the bytes of name n
abbrev pub name_bytes : List ℕ → List ℕ → ℕ → List ℕ
name_bytes text w n = part text (name_start w n) (name_start w n + name_length w n)

abbrev pub type_name : List ℕ → ℕ → ℕ
type_name w t = word_at w (type_names (layout_of w)) t

abbrev pub type_kind : List ℕ → ℕ → ℕ
type_kind w t = word_at w (type_kinds (layout_of w)) t

abbrev pub type_flag : List ℕ → ℕ → ℕ
type_flag w t = word_at w (type_flags (layout_of w)) t

-- the rows of type t run from the start to the end
abbrev pub edges_start : List ℕ → ℕ → ℕ
edges_start w t = start_at w (edges_ends (layout_of w)) t

abbrev pub edges_end : List ℕ → ℕ → ℕ
edges_end w t = word_at w (edges_ends (layout_of w)) t

abbrev pub fields_start : List ℕ → ℕ → ℕ
fields_start w t = start_at w (fields_ends (layout_of w)) t

abbrev pub fields_end : List ℕ → ℕ → ℕ
fields_end w t = word_at w (fields_ends (layout_of w)) t

abbrev pub members_start : List ℕ → ℕ → ℕ
members_start w t = start_at w (members_ends (layout_of w)) t

abbrev pub members_end : List ℕ → ℕ → ℕ
members_end w t = word_at w (members_ends (layout_of w)) t

abbrev pub values_start : List ℕ → ℕ → ℕ
values_start w t = start_at w (values_ends (layout_of w)) t

abbrev pub values_end : List ℕ → ℕ → ℕ
values_end w t = word_at w (values_ends (layout_of w)) t

abbrev pub edge_name : List ℕ → ℕ → ℕ
edge_name w e = word_at w (edge_names (layout_of w)) e

abbrev pub field_name : List ℕ → ℕ → ℕ
field_name w f = word_at w (field_names (layout_of w)) f

abbrev pub field_type : List ℕ → ℕ → ℕ
field_type w f = word_at w (field_types (layout_of w)) f

abbrev pub field_wrap : List ℕ → ℕ → ℕ
field_wrap w f = word_at w (field_wraps (layout_of w)) f

-- the arguments of field f run from the start to the end
abbrev pub arguments_start : List ℕ → ℕ → ℕ
arguments_start w f = start_at w (arguments_ends (layout_of w)) f

abbrev pub arguments_end : List ℕ → ℕ → ℕ
arguments_end w f = word_at w (arguments_ends (layout_of w)) f

abbrev pub field_default : List ℕ → ℕ → ℕ
field_default w f = word_at w (field_defaults (layout_of w)) f

abbrev pub argument_name : List ℕ → ℕ → ℕ
argument_name w a = word_at w (argument_names (layout_of w)) a

abbrev pub argument_type : List ℕ → ℕ → ℕ
argument_type w a = word_at w (argument_types (layout_of w)) a

abbrev pub argument_wrap : List ℕ → ℕ → ℕ
argument_wrap w a = word_at w (argument_wraps (layout_of w)) a

abbrev pub argument_default : List ℕ → ℕ → ℕ
argument_default w a = word_at w (argument_defaults (layout_of w)) a

abbrev pub member_name : List ℕ → ℕ → ℕ
member_name w m = word_at w (member_names (layout_of w)) m

abbrev pub value_name : List ℕ → ℕ → ℕ
value_name w v = word_at w (value_names (layout_of w)) v

-- the name of the root of an operation: 0 query, 1 mutation, 2 subscription
abbrev pub root : List ℕ → ℕ → ℕ
root w op = word_at w (roots (layout_of w)) op

-- the starts of sections are far below what a usize holds, as they are where counts are words
pub record InRange (l : Layout) : Type 0 where
  pub types_fit : l.types_at < 2 ^ 40
  pub fields_fit : l.fields_at < 2 ^ 40
  pub arguments_fit : l.arguments_at < 2 ^ 40
  pub roots_fit : l.roots_at < 2 ^ 40

-- A table whose counts keep their limits and whose length is that of the formula, with its layout. What reads words asks for this.
pub record Laid (w : List ℕ) (l : Layout) : Type 0 where
  pub same : l ≡ layout_of w
  pub types_at_is : l.types_at ≡ header_words + name_words * l.names
  pub edges_at_is : l.edges_at ≡ l.types_at + type_words * l.types
  pub fields_at_is : l.fields_at ≡ l.edges_at + edge_words * l.edges
  pub arguments_at_is : l.arguments_at ≡ l.fields_at + field_words * l.fields
  pub members_at_is : l.members_at ≡ l.arguments_at + argument_words * l.arguments
  pub values_at_is : l.values_at ≡ l.members_at + member_words * l.members
  pub roots_at_is : l.roots_at ≡ l.values_at + value_words * l.values
  pub whole : length w ≡ l.roots_at + root_words
  pub names_most : l.names ≤ most_names
  pub types_most : l.types ≤ most_types
  pub edges_most : l.edges ≤ most_edges
  pub fields_most : l.fields ≤ most_fields
  pub arguments_most : l.arguments ≤ most_arguments
  pub members_most : l.members ≤ most_members
  pub values_most : l.values ≤ most_values
