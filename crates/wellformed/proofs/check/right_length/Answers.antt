-- Where the roots end is the formula of document 01.
use Rattle.wellformed.proofs.LimitLaws.{length_right}
use Rattle.wellformed.proofs.check.right_length.Goals as goal

pub returns : goal.returns
returns c = rw c.requires.l_value (length_right _)
