-- A shift that leaves nothing tests a bound by a power of two.
use Prim.Native.Nat.{◌+◌, ◌/◌}
use Rattle.names.proofs.WrapLaws.{shift_test}
use Rattle.names.specs.Wraps.{layers, bits, good_wrap}
use Rattle.names.proofs.wrap.Wrap.is_good.Goals as goal

pub returns : goal.returns
unfolding good_wrap bits
returns c = rw c.list_layers.ensures.value (shift_test (c.args.self.0 / 16) (layers c.args.self.0 + 1))
