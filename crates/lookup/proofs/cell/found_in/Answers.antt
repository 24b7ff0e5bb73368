-- The cell of the name is read where there is one.
use mathlib.Core.Path.{ap, ◌∙◌}
use Rattle.lookup.specs.Cells.{found_cell}
use Rattle.lookup.proofs.CellLaws.{nothing_past, cell_named}
use Rattle.lookup.proofs.cell.found_in.Goals as goal

pub returns-in_err-get : goal.returns-in_err-get
returns-in_err-get c = c.from_residual.ensures ∙ nothing_past c.args.cells.now c.index.ensures c.in_err-get.ensures.lookup.3

pub returns : goal.returns
returns c = c.row_in.ensures ∙ ap found_cell (c.in_ok-get.ensures.lookup.3.1 0) ∙ cell_named c.args.cells.now c.index.ensures
