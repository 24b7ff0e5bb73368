-- The tables by their rows, and their texts.
use Rattle.std.specs.Prelude.{List, ◌∷◌, [], ◌++◌, ℕ, ◌+◌, ◌*◌, ◌/◌, ◌%◌, min}
use Rattle.table.specs.Kinds.{input_object}
use Rattle.table.specs.Tables.{name_row, type_row, field_row, no_roots}
use Rattle.records.specs.Records.{each}
use Rattle.building.specs.Building.{counts_row, two_letters}
use Rattle.shapes.specs.declared.Shape.{Shape}
use Rattle.shapes.specs.declared.Shape.TheVariants.{Ring, Ladder}

-- how many types there are
abbrev pub types : ℕ
types = 1024

-- the fields of a ladder: two each, but one of the last type but one and none of the last
abbrev pub ladder_fields : ℕ
ladder_fields = 2045

-- the fields of the types up to type i
abbrev pub fields_up_to : Shape → ℕ → ℕ
fields_up_to Ring i = i + 1
fields_up_to Ladder i = min (2 * i + 2) ladder_fields

-- the type that field f leads to
abbrev pub next_type : Shape → ℕ → ℕ
next_type Ring f = (f + 1) % types
next_type Ladder f = f / 2 + 1 + f % 2

-- two letters for each type, and y and z for fields
abbrev pub text : List ℕ
text = (each two_letters types ++ 121 ∷ []) ++ 122 ∷ []

-- names of two letters each, so many
abbrev pub letter_names : ℕ → List ℕ
letter_names n = each (λ i. name_row (2 * i) 2) n

abbrev pub names : List ℕ
names = (letter_names types ++ name_row (2 * types) 1) ++ name_row (2 * types + 1) 1

abbrev pub type_of : Shape → ℕ → List ℕ
type_of shape i = type_row i input_object 0 0 (fields_up_to shape i) 0 0

-- fields y and z in turn, each non-null
abbrev pub field_of : Shape → ℕ → List ℕ
field_of shape f = field_row (types + f % 2) (next_type shape f) 16 0 0

-- a table of a shape with so many fields
abbrev pub table : (shape : Shape) (fields : ℕ) → List ℕ
table shape fields =
    (((counts_row (record { names = types + 2; types = types; edges = 0; fields = fields; arguments = 0; members = 0; values = 0 }) ++ names) ++ each (type_of shape) types)
    ++ each (field_of shape) fields)
    ++ no_roots
