-- What `cmp` answers is the names' order.
use mathlib.Core.Path.{◌∙◌}
use Rattle.names.proofs.NameLaws.{cmp_before}
use Rattle.names.proofs.name.comes_before.Goals as goal

pub returns : goal.returns
returns c = c.is_lt.ensures ∙ cmp_before _ _ _ c.cmp.ensures
