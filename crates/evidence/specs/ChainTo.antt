-- What reading a chain field of a type answers.
use Rattle.std.specs.Prelude.{◌&&◌, cond, ℕ, leb, ltb, Option, None}
use Rattle.table.specs.declared.numbers.TypeRow.{TypeRow}
use Rattle.rows.specs.Types.{found_at}
use Rattle.links.specs.Chains.{Graph}

-- the type that field f leads to as a chain field of t, where it is one
unfoldable pub chain_to : Graph → ℕ → ℕ → Option TypeRow
chain_to g t f = cond (leb (g.start t) f && ltb f (g.stop t)) (found_at (g.next f) g.types) None
