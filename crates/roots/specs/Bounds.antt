-- How many records the rules over the roots can list at most.
use Rattle.std.specs.Prelude.{ℕ}

-- 2 or 3, and 4, each; and 1
abbrev pub most_of_roots : ℕ
most_of_roots = 7
