-- How many records a rule over edges can list at most, by the limits of the sections.
use Rattle.std.specs.Prelude.{ℕ, ◌*◌}
use Rattle.table.specs.Layout.{most_arguments}

-- a field of an interface against the own: 11 or 12 per interface argument, and 13 per own argument
abbrev pub most_of_interface_field : ℕ
most_of_interface_field = 2 * most_arguments
