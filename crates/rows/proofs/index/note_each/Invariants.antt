-- After i rows the cells tell the first i rows.
use Rattle.std.proofs.Common.{◌≡◌, ℕ, ◌<◌, length}
use Rattle.table.specs.Layout.{most_names}
use Rattle.rows.specs.Index.{Tells}
use Rattle.rows.proofs.index.note_each.Given as goal

abbrev pub invariant-loop-i : goal.invariant-loop-i
invariant-loop-i g l =
    record {
      size : length l.cells ≡ most_names;
      tells : (name : ℕ → ℕ) → ((i : ℕ) (n : _) → i < l.rows → goal.F-post g l.name_of i n → n.0 ≡ name i) → Tells name l.i l.cells;
    }
