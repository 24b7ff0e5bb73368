-- What every field leads to, looked up once: a cell for each field row.
use Rattle.std.specs.Prelude.{◌≡◌, List, ℕ, ◌≤◌, ◌<◌, length, get_or}
use Rattle.table.specs.Layout.{layout_of, type_count, field_count}
use Rattle.rows.specs.Index.{cell_of}
use Rattle.rows.specs.Readable.{SoundRows}
use Rattle.links.specs.Fields.{chain_target}

-- the cell of each field holds the row of the type that it leads to, plus 1, or 0 where it leads to none
pub record Resolved (w cells : List ℕ) : Type 0 where
  pub room : field_count w ≤ length cells
  pub right : (f : ℕ) → f < field_count w → get_or cells f 0 ≡ cell_of (chain_target w f) (type_count w)

-- a table whose chains can be followed: its rows are sound, and the cells tell what each field leads to
pub record Linked (w cells : List ℕ) : Type 0 where
  pub rows : SoundRows w (layout_of w)
  pub targets : Resolved w cells
