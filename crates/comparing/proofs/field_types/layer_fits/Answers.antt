-- `layer_fits`: what the calls answer, put together as the definition does.
use Rattle.comparing.proofs.field_types.layer_fits.Goals as goal

pub returns : goal.returns
returns c = simp (c.non_null.ensures, c.non_null-2.ensures)
