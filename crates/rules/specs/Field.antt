-- Fields of objects and interfaces: 5; the arguments; then 3 or 19. The fields fs of type t start at row `first`.
use Rattle.std.specs.Prelude.{not, cond, List, ◌∷◌, [], ◌++◌, ℕ, ◌+◌}
use Rattle.table.specs.Kinds.{input_object_kind}
use Rattle.table.specs.Layout.{type_flag, arguments_start}
use Rattle.records.specs.declared.Record.{Record}
use Rattle.records.specs.Records.{each, when}
use Rattle.records.specs.Rows.{undefined_definition, output_type, at_field}
use Rattle.rows.specs.Types.{defined, kind_named, builtin}
use Rattle.rows.specs.Parts.{field_rows, field_name_in, field_type_in, arguments_of}
use Rattle.inputs.specs.Names.{name_record}
use Rattle.inputs.specs.InputObject.{arguments_records}

-- a type n here: 19 for kind 5. Another: 3 unless it is a built-in scalar
unfoldable pub output_type_record : (text w : List ℕ) (t n f : ℕ) → List Record
output_type_record text w t n f =
    cond (defined w n) (when (input_object_kind (kind_named w n)) (output_type t f ∷ []))
    (when (not (builtin text w n)) (undefined_definition t n at_field f ∷ []))

-- 5 for the name n of field f, and its arguments
abbrev pub field_definition_record : (text w : List ℕ) (t n f : ℕ) → List Record
field_definition_record text w t n f =
    name_record text w t (type_flag w t) n at_field f ++ arguments_records text w t (arguments_start w f) (arguments_of w f)

-- field i: these, then 3 or 19
unfoldable pub field_record : (text w : List ℕ) (t first : ℕ) (fs : List ℕ) (i : ℕ) → List Record
field_record text w t first fs i =
    field_definition_record text w t (field_name_in fs i) (first + i) ++ output_type_record text w t (field_type_in fs i) (first + i)

-- the fields of a type
unfoldable pub fields_records : (text w : List ℕ) (t first : ℕ) (fs : List ℕ) → List Record
fields_records text w t first fs = each (field_record text w t first fs) (field_rows fs)
