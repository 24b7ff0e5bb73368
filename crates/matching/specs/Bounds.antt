-- How many records a rule over the fields of an interface can list at most, by the limits of the sections.
use Rattle.std.specs.Prelude.{ℕ, ◌*◌}
use Rattle.table.specs.Layout.{most_fields}
use Rattle.comparing.specs.Bounds.{most_of_interface_field}

-- the fields of an interface; its edges are fewer
abbrev pub most_of_interface : ℕ
most_of_interface = most_of_interface_field * most_fields
