-- The bit is read as the definition reads it.
use mathlib.Core.Path.{refl}
use Rattle.names.specs.Wraps.{bits, non_null}
use Rattle.names.proofs.wrap.Wrap.non_null.Goals as goal

pub returns : goal.returns
unfolding non_null bits
returns c = refl
