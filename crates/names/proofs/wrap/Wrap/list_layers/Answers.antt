-- The remainder by 16, which is below 16.
use native.Mathlib.Omega.{arith}
use mathlib.Core.Path.{refl}
use Rattle.names.specs.Wraps.{layers}
use Rattle.names.proofs.wrap.Wrap.list_layers.Goals as goal

pub returns : goal.returns
unfolding layers
returns c = record { value = refl; upper_bound = omega arith }
