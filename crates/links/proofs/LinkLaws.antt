-- What every field leads to: the cells, as they are filled and as they are read.
use mathlib.Core.Path.{◌≡◌, sym, ap, ◌∙◌}
use mathlib.Core.List.{List}
use Prim.Native.Nat.{ℕ, suc, ◌+◌, ◌<◌}
use native.Mathlib.Omega.{arith}
use lib.ListN.{get_or}
use Rattle.table.specs.declared.layout.Layout.{Layout}
use Rattle.table.specs.declared.numbers.TypeRow.{TypeRow}
use Rattle.table.specs.Layout.{Laid, layout_of, type_count, field_count, most_types}
use Rattle.rows.specs.Readable.{SoundRows}
use Rattle.std.specs.Prelude.{Option, Some, None}
use Rattle.rows.specs.Types.{found_at}
use Rattle.rows.specs.Index.{cell_of, row_told}
use Rattle.rows.proofs.FoundTypes.{at_below, at_row, nothing_none}
use Rattle.rows.proofs.IndexLaws.{cell_found, cell_nothing, row_told_cell}
use Rattle.links.specs.Fields.{chain_target}
use Rattle.links.specs.Links.{Resolved, Linked}

-- the rows of a table by its own layout
pub own_rows : {w : List ℕ} {l : Layout} → SoundRows w l → SoundRows w (layout_of w)
own_rows s = rw s.laid.same at s

pub linked : {w cells : List ℕ} {l : Layout} → SoundRows w l → Resolved w cells → Linked w cells
linked s r = record { rows = own_rows s; targets = r }

-- a cell as it is made: r is the row that was found, or none
module _ {w : List ℕ} {l : Layout} (laid : Laid w l) (r : ℕ) where
  types : l.types ≡ type_count w
  types = ap (λ (x : Layout). x.types) laid.same

  pub cell_none : (a : Option TypeRow) → a ≡ found_at r l.types → a ≡ None → 0 ≡ cell_of r (type_count w)
  cell_none a e n = sym (cell_nothing r (type_count w) (omega (arith, types, nothing_none _ _ (sym e ∙ n))))

  pub cell_some : (a : Option TypeRow) (u : TypeRow) → a ≡ found_at r l.types → a ≡ Some u → (u.0 < most_types) × (u.0 + 1 ≡ cell_of r (type_count w))
  cell_some a u e n =
      let b = at_below _ _ u (sym e ∙ n) in
      let o = at_row _ _ u (sym e ∙ n) in
      let s : u.0 + 1 ≡ suc r = omega arith in
      (omega (arith, laid.types_most), s ∙ sym (cell_found r (type_count w) (omega (arith, types))))

-- a cell as it is read
module _ {w cells : List ℕ} (x : Resolved w cells) (f : ℕ) (h : f < field_count w) where
  pub leads : row_told (get_or cells f 0) ≡ found_at (chain_target w f) (type_count w)
  leads = ap row_told (x.right f h) ∙ row_told_cell _ _
