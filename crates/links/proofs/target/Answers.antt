-- `target`: the cell of the field tells.
use mathlib.Core.Path.{◌∙◌}
use Rattle.links.proofs.LinkLaws.{leads}
use Rattle.links.proofs.target.Goals as goal

pub returns : goal.returns
returns c = c.row_in.ensures ∙ leads c.requires.resolved _ c.requires.f_bound
