-- Schema: 1 if there is no query; each root present: 2 or 3, then 4.
use Rattle.std.specs.Prelude.{not, cond, List, ◌∷◌, [], ◌++◌, ℕ, eqb, ltb}
use Rattle.table.specs.Kinds.{object}
use Rattle.table.specs.Layout.{none, root, root_words}
use Rattle.records.specs.declared.Record.{Record}
use Rattle.records.specs.Records.{each, when}
use Rattle.records.specs.Rows.{query_root_operation_type, root_operation_object_type, undefined_definition, duplicate_root_operation_type, at_root}
use Rattle.rows.specs.Search.{find}
use Rattle.rows.specs.Types.{defined, kind_named}

-- 2 for a root n that is no object, 3 for one that is undefined
unfoldable pub root_type : (w : List ℕ) (operation n : ℕ) → List Record
root_type w operation n =
    cond (defined w n) (when (not (eqb (kind_named w n) object)) (root_operation_object_type operation n ∷ []))
    (undefined_definition none n at_root operation ∷ [])

-- the first operation with the name, or the operation itself
unfoldable pub first_root : (w : List ℕ) (operation n : ℕ) → ℕ
first_root w operation n = find (λ o. eqb (root w o) n) 0 operation

-- 4 for a root whose name an operation before it has
unfoldable pub root_repeat : (w : List ℕ) (operation n : ℕ) → List Record
root_repeat w operation n =
    when (ltb (first_root w operation n) operation) (duplicate_root_operation_type operation n (first_root w operation n) ∷ [])

-- a root that is present
unfoldable pub root_records : (w : List ℕ) (operation : ℕ) → List Record
root_records w operation = when (not (eqb (root w operation) none)) (root_type w operation (root w operation) ++ root_repeat w operation (root w operation))

-- 1 if there is no query
unfoldable pub query_record : (w : List ℕ) → List Record
query_record w = when (eqb (root w 0) none) (query_root_operation_type ∷ [])

unfoldable pub schema_records : (w : List ℕ) → List Record
schema_records w = query_record w ++ each (root_records w) root_words
