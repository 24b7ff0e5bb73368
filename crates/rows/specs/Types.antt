-- Types by their names, and what a name's bytes say.
use Rattle.std.specs.Prelude.{Bool, ◌&&◌, cond, List, ℕ, ltb, eqb, Option, Some, None}
use Rattle.table.specs.Kinds.{interface}
use Rattle.table.specs.Layout.{type_name, type_kind, type_count, name_bytes}
use Rattle.names.specs.Names.{starts_reserved, builtin_scalar}
use Rattle.rows.specs.Search.{find}
use Rattle.table.specs.declared.numbers.TypeRow.{TypeRow}

-- the row of the type with the name, or the count of types
unfoldable pub type_named : List ℕ → ℕ → ℕ
type_named w n = find (λ t. eqb (type_name w t) n) 0 (type_count w)

-- a type here has the name
unfoldable pub defined : List ℕ → ℕ → Bool
defined w n = ltb (type_named w n) (type_count w)

-- the kind of the type with the name
abbrev pub kind_named : List ℕ → ℕ → ℕ
kind_named w n = type_kind w (type_named w n)

-- the name is an interface here
unfoldable pub is_interface : List ℕ → ℕ → Bool
is_interface w n = defined w n && eqb (kind_named w n) interface

-- the name starts with `__`
unfoldable pub reserved : List ℕ → List ℕ → ℕ → Bool
reserved text w n = starts_reserved (name_bytes text w n)

-- the name is that of a built-in scalar
unfoldable pub builtin : List ℕ → List ℕ → ℕ → Bool
builtin text w n = builtin_scalar (name_bytes text w n)

-- what a search that ends at row r of n types answers
unfoldable pub found_at : ℕ → ℕ → Option TypeRow
found_at r n = cond (ltb r n) (Some (record { 0 = r })) None
