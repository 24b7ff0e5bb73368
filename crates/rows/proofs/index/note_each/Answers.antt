-- Each row is noted in the cell of its name (`tells_more`).
use native.Mathlib.Omega.{arith}
use mathlib.Core.Path.{◌∙◌, ap}
use Prim.Native.Nat.{ℕ}
use lib.ListN.{length, length-replicate}
use Rattle.table.specs.Layout.{most_names}
use Rattle.rows.proofs.IndexLaws.{tells_nothing, tells_more, length_noted}
use Rattle.rows.proofs.index.note_each.Goals as goal

pub loop-i-init : goal.loop-i-init
loop-i-init g c = record { size = ap length c.requires.cells_value ∙ length-replicate {A = ℕ} most_names 0; tells = λ name h. tells_nothing name _ c.requires.cells_value }

pub loop-i-preserved : goal.loop-i-preserved
loop-i-preserved g c =
    record {
      size = ap length c.note.ensures ∙ length_noted c.loop-i.cells _ _ ∙ c.loop-i.invariant.size;
      tells = λ name h.
          let e = h _ _ c.loop-i-test.true c.name_of.ensures in
          let below = c.requires.names_in_bounds _ _ c.loop-i-test.true c.name_of.ensures in
          rw (c.note.ensures, e) (tells_more name c.loop-i.cells c.loop-i.i (c.loop-i.invariant.tells name h) (omega (arith, e, c.loop-i.invariant.size)));
    }
