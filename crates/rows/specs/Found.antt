-- What a search in a part answers.
use Rattle.std.specs.Prelude.{cond, ℕ, ltb, Option, Some, None}

-- a search that ends at row r of n
unfoldable pub found_row : ℕ → ℕ → Option ℕ
found_row r n = cond (ltb r n) (Some r) None
