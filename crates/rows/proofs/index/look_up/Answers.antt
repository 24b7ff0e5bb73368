-- `look_up`: the cell of the name tells what the walk through the types finds.
use mathlib.Core.Path.{ap, ◌∙◌}
use Rattle.rows.specs.Index.{row_told}
use Rattle.rows.proofs.IndexLaws.{nothing_past, type_told}
use Rattle.rows.proofs.index.look_up.Goals as goal

pub returns-in_err-get : goal.returns-in_err-get
returns-in_err-get c = c.from_residual.ensures ∙ nothing_past c.requires c.index.ensures c.in_err-get.ensures.lookup.3

pub returns : goal.returns
returns c = c.row_in.ensures ∙ ap row_told (c.in_ok-get.ensures.lookup.3.1 0) ∙ type_told c.requires c.index.ensures
