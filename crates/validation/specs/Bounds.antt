-- How many records a type, and a whole table, can list at most, by the limits of the sections: below 2^53.
use Rattle.std.specs.Prelude.{ℕ, ◌+◌, ◌*◌}
use Rattle.table.specs.Layout.{most_types, most_edges, most_fields}
use Rattle.rules.specs.Bounds.{most_of_field}
use Rattle.roots.specs.Bounds.{most_of_roots}
use Rattle.implementing.specs.Bounds.{most_of_edges}

-- the fields of a type, and 7
abbrev pub most_of_fields : ℕ
most_of_fields = most_of_field * most_fields + 1

-- an object: its fields and the five loops
abbrev pub most_of_object : ℕ
most_of_object = most_of_fields + 5 * most_of_edges

-- a type of any kind: an interface lists most, with 6 per edge
abbrev pub most_of_kind : ℕ
most_of_kind = most_edges + most_of_object

-- and 5 for its name
abbrev pub most_of_type : ℕ
most_of_type = most_of_kind + 1

-- a whole table
abbrev pub most_records : ℕ
most_records = most_of_roots + most_of_type * most_types
