-- How many records a rule can list at most, by the limits of the sections. Contracts bound their counts by these, so that sums are seen to
-- fit in a word.
use Rattle.std.specs.Prelude.{ℕ, ◌+◌}
use Rattle.inputs.specs.Bounds.{most_of_arguments}

-- a field: these, 5, and 3 or 19
abbrev pub most_of_field : ℕ
most_of_field = most_of_arguments + 2
