-- Graphs of fields, and chain fields. Only definitions, and no search in them.
use Rattle.std.specs.Prelude.{◌≡◌, ℕ, ◌≤◌, ◌<◌}

-- A graph: type t owns the field rows from `start t` up to, and not including, `stop t`. Field f is a chain field to the type
-- `next f` where that is below the number of types, and else no chain field.
pub record Graph : Type 0 where
  pub types : ℕ
  pub start : ℕ → ℕ
  pub stop : ℕ → ℕ
  pub next : ℕ → ℕ

module _ (g : Graph) where
  -- field f is a row of type t, and a chain field to the type u
  pub record Chain (t f u : ℕ) : Type 0 where
    pub low : g.start t ≤ f
    pub high : f < g.stop t
    pub leads : g.next f ≡ u
    pub type : u < g.types
