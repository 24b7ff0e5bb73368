-- Reserved names (the Rust's validate_type_system_name).
use Rattle.std.specs.Prelude.{◌&&◌, List, ◌∷◌, [], ℕ, eqb}
use Rattle.records.specs.declared.Record.{Record}
use Rattle.records.specs.Records.{when}
use Rattle.records.specs.Rows.{reserved_name}
use Rattle.rows.specs.Types.{reserved}

-- 5 for a name of type t that starts with `__`, where the flag is 0
unfoldable pub name_record : (text w : List ℕ) (t flag n place row : ℕ) → List Record
name_record text w t flag n place row = when (eqb flag 0 && reserved text w n) (reserved_name t n place row ∷ [])
