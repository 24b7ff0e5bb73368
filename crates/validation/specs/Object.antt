-- Object: its fields; 7; its edges. Interface: 6 per edge naming itself, then as object.
use Rattle.std.specs.Prelude.{List, ◌∷◌, [], ◌++◌, ℕ, eqb}
use Rattle.table.specs.Layout.{edges_start, fields_start}
use Rattle.records.specs.declared.Record.{Record}
use Rattle.records.specs.Records.{when}
use Rattle.records.specs.Rows.{empty_field_set}
use Rattle.rows.specs.Parts.{edges_of, fields_of, field_rows}
use Rattle.rules.specs.Field.{fields_records}
use Rattle.implementing.specs.Interface.{self_edges, edges_records}

-- the fields of an object or interface; 7 where there is none
abbrev pub field_set_records : (text w : List ℕ) (t first : ℕ) (fs : List ℕ) → List Record
field_set_records text w t first fs = fields_records text w t first fs ++ when (eqb (field_rows fs) 0) (empty_field_set t ∷ [])

-- its fields, then its edges
unfoldable pub object_records : (text w : List ℕ) (t : ℕ) → List Record
object_records text w t =
    field_set_records text w t (fields_start w t) (fields_of w t)
    ++ edges_records w t (edges_start w t) (edges_of w t) (fields_start w t) (fields_of w t)

-- 6, then as object
unfoldable pub interface_records : (text w : List ℕ) (t : ℕ) → List Record
interface_records text w t = self_edges w t (edges_start w t) (edges_of w t) ++ object_records text w t
