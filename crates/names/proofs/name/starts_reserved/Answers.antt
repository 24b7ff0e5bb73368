use Rattle.std.proofs.Common.{◌∙◌}
use Rattle.names.proofs.NameLaws.{starts_two}
use Rattle.names.proofs.name.starts_reserved.Goals as goal

pub returns : goal.returns
returns c = c.starts_with.ensures.value ∙ starts_two c.args.s.now
