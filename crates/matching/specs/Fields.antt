-- Fields of an interface: 9; 10; 11 or 12 per interface argument, then 13. Type t has the fields `fields` from row `fieldsFirst` on. viaEdge is the row of
-- the edge that leads to the interface, and interfaceType the row of its type; its fields are `demanded`, from row `demandedFirst` on.
use Rattle.std.specs.Prelude.{Bool, not, List, ◌∷◌, [], ℕ, ◌+◌, ltb}
use Rattle.table.specs.Layout.{fields_start}
use Rattle.records.specs.declared.Record.{Record}
use Rattle.records.specs.Records.{each, when}
use Rattle.records.specs.Rows.{missing_interface_field, invalid_implementation_field_type}
use Rattle.rows.specs.Parts.{fields_of, field_rows, field_name_in, field_type_in, field_wrap_in, field_named}
use Rattle.comparing.specs.FieldTypes.{field_type_fits}
use Rattle.comparing.specs.Arguments.{implementing_arguments}

-- what f lists for each field of an interface: its fields, their first row, and the place among them
unfoldable pub interface_fields : (f : List ℕ → ℕ → ℕ → List Record) (w : List ℕ) (interfaceType : ℕ) → List Record
interface_fields f w interfaceType = each (f (fields_of w interfaceType) (fields_start w interfaceType)) (field_rows (fields_of w interfaceType))

-- where the type's field with the name of the interface's field i stands, or how many fields it has
abbrev pub own_field : (fields demanded : List ℕ) (i : ℕ) → ℕ
own_field fields demanded i = field_named fields (field_name_in demanded i)

-- the type has a field of that name
abbrev pub has_field : (fields demanded : List ℕ) (i : ℕ) → Bool
has_field fields demanded i = ltb (own_field fields demanded i) (field_rows fields)

-- 9 for a field of the interface that the type lacks
unfoldable pub missing_field : (t : ℕ) (fields : List ℕ) (viaEdge : ℕ) (demanded : List ℕ) (demandedFirst i : ℕ) → List Record
missing_field t fields viaEdge demanded demandedFirst i =
    when (not (has_field fields demanded i)) (missing_interface_field t viaEdge (demandedFirst + i) ∷ [])

-- 10 for an own field whose type does not do for the interface's
unfoldable pub field_type_record : (w : List ℕ) (t fieldsFirst : ℕ) (fields : List ℕ) (viaEdge : ℕ) (demanded : List ℕ) (demandedFirst i : ℕ) → List Record
field_type_record w t fieldsFirst fields viaEdge demanded demandedFirst i =
    let own = own_field fields demanded i in
    when (has_field fields demanded i)
    (when (not (field_type_fits w (field_type_in demanded i) (field_wrap_in demanded i) (field_type_in fields own) (field_wrap_in fields own)))
    (invalid_implementation_field_type t viaEdge (demandedFirst + i) (fieldsFirst + own) ∷ []))

-- 11 to 13 for field i of the interface
unfoldable pub field_arguments : (w : List ℕ) (t fieldsFirst : ℕ) (fields : List ℕ) (viaEdge : ℕ) (demanded : List ℕ) (demandedFirst i : ℕ) → List Record
field_arguments w t fieldsFirst fields viaEdge demanded demandedFirst i =
    when (has_field fields demanded i) (implementing_arguments w t viaEdge (demandedFirst + i) (fieldsFirst + own_field fields demanded i))
