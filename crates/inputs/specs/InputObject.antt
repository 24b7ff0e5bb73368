-- Input object: 17; per field 5, then 3 or 18; 21. Arguments: 5, then 3 or 18; then 20. The fields fs of type t, and the arguments args of a
-- field, start at row `first`.
use Rattle.std.specs.Prelude.{Bool, not, cond, ◌||◌, List, ◌∷◌, [], ◌++◌, ℕ, ◌+◌, eqb, ltb}
use Rattle.table.specs.Kinds.{scalar, enum, input_object_kind}
use Rattle.table.specs.Layout.{type_flag}
use Rattle.records.specs.declared.Record.{Record}
use Rattle.records.specs.Records.{each, when}
use Rattle.records.specs.Rows.{undefined_definition, input_type, unique_input_value, recursive_input_object_definition, empty_input_value_set, at_argument, at_input_field}
use Rattle.rows.specs.Types.{defined, kind_named, builtin}
use Rattle.rows.specs.Parts.{field_rows, field_name_in, field_type_in, argument_rows, argument_name_in, argument_type_in, argument_named}
use Rattle.inputs.specs.Names.{name_record}

-- input types: kinds 0, 4, 5
abbrev pub input_kind : ℕ → Bool
input_kind k = eqb k scalar || eqb k enum || input_object_kind k

-- a type n here: 18 unless it is an input type. Another: 3 unless it is a built-in scalar
unfoldable pub input_type_record : (text w : List ℕ) (t n place row : ℕ) → List Record
input_type_record text w t n place row =
    cond (defined w n) (when (not (input_kind (kind_named w n))) (input_type t place row ∷ []))
    (when (not (builtin text w n)) (undefined_definition t n place row ∷ []))

-- an argument or an input field, of the name n and the type's name m: 5, then 3 or 18
abbrev pub input_value : (text w : List ℕ) (t flag n m place row : ℕ) → List Record
input_value text w t flag n m place row = name_record text w t flag n place row ++ input_type_record text w t m place row

-- argument i
unfoldable pub argument_record : (text w : List ℕ) (t first : ℕ) (args : List ℕ) (i : ℕ) → List Record
argument_record text w t first args i =
    input_value text w t (type_flag w t) (argument_name_in args i) (argument_type_in args i) at_argument (first + i)

-- 5, then 3 or 18, per argument
abbrev pub argument_values_records : (text w : List ℕ) (t first : ℕ) (args : List ℕ) → List Record
argument_values_records text w t first args = each (argument_record text w t first args) (argument_rows args)

-- 20 for an argument i whose name came before, against the first of the name
unfoldable pub repeat_record : (t first : ℕ) (args : List ℕ) (i : ℕ) → List Record
repeat_record t first args i =
    let j = argument_named args (argument_name_in args i) in
    when (ltb j i) (unique_input_value t (first + j) (first + i) ∷ [])

-- 20 per argument whose name came before
abbrev pub repeats_records : (t first : ℕ) (args : List ℕ) → List Record
repeats_records t first args = each (repeat_record t first args) (argument_rows args)

-- the arguments of a field
unfoldable pub arguments_records : (text w : List ℕ) (t first : ℕ) (args : List ℕ) → List Record
arguments_records text w t first args = argument_values_records text w t first args ++ repeats_records t first args

-- input field i
unfoldable pub input_field_record : (text w : List ℕ) (t first : ℕ) (fs : List ℕ) (i : ℕ) → List Record
input_field_record text w t first fs i =
    input_value text w t (type_flag w t) (field_name_in fs i) (field_type_in fs i) at_input_field (first + i)

-- 5, then 3 or 18, per input field
abbrev pub input_values_records : (text w : List ℕ) (t first : ℕ) (fs : List ℕ) → List Record
input_values_records text w t first fs = each (input_field_record text w t first fs) (field_rows fs)

-- and 21 where there is none
unfoldable pub input_fields_records : (text w : List ℕ) (t first : ℕ) (fs : List ℕ) → List Record
input_fields_records text w t first fs = input_values_records text w t first fs ++ when (eqb (field_rows fs) 0) (empty_input_value_set t ∷ [])

-- 17 with the count of fields in the first cycle, if there is one
unfoldable pub cycle_record : (t cycle : ℕ) → List Record
cycle_record t cycle = when (ltb 0 cycle) (recursive_input_object_definition t cycle ∷ [])

unfoldable pub input_object_records : (text w : List ℕ) (t cycle first : ℕ) (fs : List ℕ) → List Record
input_object_records text w t cycle first fs = cycle_record t cycle ++ input_fields_records text w t first fs
