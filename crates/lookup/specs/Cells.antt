-- Rows by their names in cells, a cell for each name number: arguments and fields.
use Rattle.std.specs.Prelude.{◌≢◌, List, ℕ, zero, suc, ◌≤◌, ◌<◌, length, Option, Some, None}
use Rattle.table.specs.Layout.{most_names, most_arguments}
use Rattle.rows.specs.Parts.{argument_rows, argument_name_in, field_rows, field_name_in}
use Rattle.rows.specs.Index.{Tells}

-- the row that a cell tells
unfoldable pub found_cell : ℕ → Option ℕ
found_cell zero = None
found_cell (suc row) = Some row

-- so many rows are walked through
abbrev pub few : ℕ
few = 16

-- n rows of a table: their names have cells; `name i` is the name of row i
pub record Named (name : ℕ → ℕ) (n : ℕ) : Type 0 where
  pub names : (i : ℕ) → i < n → name i < most_names
  pub most : n ≤ most_arguments

-- cells that help a search among n rows: they tell them, or there are none
pub record Helps (name : ℕ → ℕ) (n : ℕ) (cells : List ℕ) : Type 0 where
  pub told : length cells ≢ 0 → Tells name n cells

-- of arguments
abbrev pub ArgumentsNamed : (arguments : List ℕ) → Type 0
ArgumentsNamed arguments = Named (argument_name_in arguments) (argument_rows arguments)

abbrev pub ArgumentsTold : (arguments cells : List ℕ) → Type 0
ArgumentsTold arguments cells = Tells (argument_name_in arguments) (argument_rows arguments) cells

abbrev pub ArgumentsHelped : (arguments cells : List ℕ) → Type 0
ArgumentsHelped arguments cells = Helps (argument_name_in arguments) (argument_rows arguments) cells

-- of fields
abbrev pub FieldsNamed : (fields : List ℕ) → Type 0
FieldsNamed fields = Named (field_name_in fields) (field_rows fields)

abbrev pub FieldsTold : (fields cells : List ℕ) → Type 0
FieldsTold fields cells = Tells (field_name_in fields) (field_rows fields) cells

abbrev pub FieldsHelped : (fields cells : List ℕ) → Type 0
FieldsHelped fields cells = Helps (field_name_in fields) (field_rows fields) cells
