use Rattle.std.proofs.Common.{◌∙◌}
use Rattle.std.proofs.Math.Bool.{or_assoc, or-false}
use Rattle.names.specs.Names.{builtin_scalar}
use Rattle.names.proofs.NameLaws.{same_pointwise}
use Rattle.names.proofs.name.is_builtin_scalar.Goals as goal

pub returns : goal.returns
unfolding builtin_scalar
returns c = c.contains.ensures.value ∙ simp (same_pointwise, or_assoc, or-false)
