-- How many records a rule can list at most, by the limits of the sections. Contracts bound their counts by these, so that sums are seen to
-- fit in a word.
use Rattle.std.specs.Prelude.{ℕ, ◌*◌}
use Rattle.table.specs.Layout.{most_arguments}

-- the arguments of a field: 5 and 3 or 18 each, and 20
abbrev pub most_of_arguments : ℕ
most_of_arguments = 3 * most_arguments
