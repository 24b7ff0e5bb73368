-- Document 01, "Order of the list": the records of a whole table (the Rust's validate_schema).
use Rattle.std.specs.Prelude.{cond, List, [], ◌++◌, ℕ, get_or, eqb}
use Rattle.table.specs.Kinds.{object, interface, union, enum, input_object_kind}
use Rattle.table.specs.Layout.{type_count, type_name, type_kind, type_flag, fields_start, members_start, values_start}
use Rattle.records.specs.declared.Record.{Record}
use Rattle.records.specs.Records.{each}
use Rattle.records.specs.Rows.{at_type_name}
use Rattle.rows.specs.Parts.{fields_of, members_of, values_of}
use Rattle.inputs.specs.Names.{name_record}
use Rattle.rules.specs.Enum.{enum_records}
use Rattle.rules.specs.Union.{union_records}
use Rattle.roots.specs.Schema.{schema_records}
use Rattle.inputs.specs.InputObject.{input_object_records}
use Rattle.validation.specs.Object.{object_records, interface_records}

-- a union, an enum, and an input object whose first cycle has `cycle` fields, by their rows
abbrev pub of_union : (w : List ℕ) (t : ℕ) → List Record
of_union w t = union_records w t (members_start w t) (members_of w t)

abbrev pub of_enum : (text w : List ℕ) (t : ℕ) → List Record
of_enum text w t = enum_records text w t (values_start w t) (values_of w t)

abbrev pub of_input_object : (text w : List ℕ) (cycle t : ℕ) → List Record
of_input_object text w cycle t = input_object_records text w t cycle (fields_start w t) (fields_of w t)

-- by kind: 1 object, 2 interface, 3 union, 4 enum, 5 input object; a scalar has nothing
unfoldable pub kind_records : (text w : List ℕ) (cycle t : ℕ) → List Record
kind_records text w cycle t =
    cond (eqb (type_kind w t) object) (object_records text w t)
    (cond (eqb (type_kind w t) interface) (interface_records text w t)
    (cond (eqb (type_kind w t) union) (of_union w t)
    (cond (eqb (type_kind w t) enum) (of_enum text w t)
    (cond (input_object_kind (type_kind w t)) (of_input_object text w cycle t) []))))

-- 5 for the type name, then by kind; `cycle` counts the fields of the type's first cycle
abbrev pub type_list : (text w : List ℕ) (cycle t : ℕ) → List Record
type_list text w cycle t = name_record text w t (type_flag w t) (type_name w t) at_type_name t ++ kind_records text w cycle t

-- with the counts of all types, 0 for no first cycle
unfoldable pub type_records : (text w : List ℕ) (cycles : ℕ → ℕ) (t : ℕ) → List Record
type_records text w cycles t = type_list text w (cycles t) t

-- the types in row order
abbrev pub types_records : (text w : List ℕ) (cycles : ℕ → ℕ) → List Record
types_records text w cycles = each (type_records text w cycles) (type_count w)

-- counts that stand in a list of words, one for each type
abbrev pub counts_of : List ℕ → ℕ → ℕ
counts_of cycles t = get_or cycles t 0

-- the schema's, then the types'
unfoldable pub records : (text w : List ℕ) (cycles : ℕ → ℕ) → List Record
records text w cycles = schema_records w ++ types_records text w cycles
