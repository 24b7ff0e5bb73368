-- `note`: the cell is written where it is 0.
use mathlib.Core.Path.{◌≡◌, sym}
use native.Mathlib.Numerals.{add-one}
use Rattle.rows.proofs.IndexLaws.{noted_new, noted_kept}
use Rattle.rows.proofs.index.note.Goals as goal

pub returns-then-cells-at-eq0 : goal.returns-then-cells-at-eq0
returns-then-cells-at-eq0 c =
    let e : c.index-at.result ≡ c.args.name.0 = c.index-at.ensures in
    rw (e, add-one) (sym (noted_new c.args.cells.now c.args.name.0 c.args.row (rw e at c.if-cells-at-eq0.true)))

pub returns-else-cells-at-eq0 : goal.returns-else-cells-at-eq0
returns-else-cells-at-eq0 c = sym (noted_kept c.args.cells.now c.args.name.0 c.args.row (rw c.index-at.ensures at c.if-cells-at-eq0.false))
