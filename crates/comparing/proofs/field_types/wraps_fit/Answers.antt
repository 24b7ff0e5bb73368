-- `wraps_fit`: each branch lists what the definition lists there, by the tests that led to it.
use native.Mathlib.Omega.{arith}
use Rattle.comparing.specs.FieldTypes.{wraps_fit}
use Rattle.comparing.proofs.field_types.wraps_fit.Goals as goal

pub layers_fit-requires : goal.layers_fit-requires
layers_fit-requires c = simp c.list_layers.ensures.value (omega (arith, c.list_layers.ensures.upper_bound))

pub returns : goal.returns
unfolding wraps_fit
returns c = simp (c.layers_fit.ensures, c.list_layers.ensures.value, c.list_layers-2.ensures.value)
