-- The list layers left fall.
use Rattle.comparing.proofs.field_types.+layers_fit.Given as goal

abbrev pub decreases-layers_fit : goal.decreases-layers_fit
decreases-layers_fit l = l.left
