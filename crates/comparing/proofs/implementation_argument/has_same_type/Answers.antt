-- `has_same_type`: what the calls answer, put together as the definition does.
use Rattle.comparing.proofs.implementation_argument.has_same_type.Goals as goal

pub returns : goal.returns
returns c =
    simp (c.eq.ensures, c.eq-2.ensures, c.argument_type.ensures, c.argument_type-2.ensures, c.argument_wrap.ensures, c.argument_wrap-2.ensures)
