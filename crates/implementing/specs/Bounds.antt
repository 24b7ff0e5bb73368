-- How many records a rule over edges can list at most, by the limits of the sections.
use Rattle.std.specs.Prelude.{ℕ, ◌*◌}
use Rattle.table.specs.Layout.{most_edges}
use Rattle.matching.specs.Bounds.{most_of_interface}

-- one loop over the edges
abbrev pub most_of_edges : ℕ
most_of_edges = most_of_interface * most_edges
