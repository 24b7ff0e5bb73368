-- Union: per member 3 or 14; 15. The members ms of type t start at row `first`.
use Rattle.std.specs.Prelude.{not, cond, List, ◌∷◌, [], ◌++◌, ℕ, ◌+◌, eqb}
use Rattle.table.specs.Kinds.{object}
use Rattle.records.specs.declared.Record.{Record}
use Rattle.records.specs.Records.{each, when}
use Rattle.records.specs.Rows.{undefined_definition, union_member_object_type, empty_member_set, at_member}
use Rattle.rows.specs.Types.{defined, kind_named}
use Rattle.rows.specs.Parts.{member_rows, member_name_in}

-- 3 for a member n that is undefined, 14 for one that is no object
unfoldable pub member_record : (w : List ℕ) (t n m : ℕ) → List Record
member_record w t n m = cond (defined w n) (when (not (eqb (kind_named w n) object)) (union_member_object_type t m ∷ [])) (undefined_definition t n at_member m ∷ [])

-- per member 3 or 14
abbrev pub members_records : (w : List ℕ) (t first : ℕ) (ms : List ℕ) → List Record
members_records w t first ms = each (λ i. member_record w t (member_name_in ms i) (first + i)) (member_rows ms)

-- and 15 where there is none
unfoldable pub union_records : (w : List ℕ) (t first : ℕ) (ms : List ℕ) → List Record
union_records w t first ms = members_records w t first ms ++ when (eqb (member_rows ms) 0) (empty_member_set t ∷ [])
