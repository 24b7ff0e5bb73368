use Rattle.std.proofs.Common.{sym, arith}
use Rattle.std.proofs.Math.Seq.{length-take-le}
use Rattle.rising.proofs.lists.is_edge_of.Goals as goal

pub slice_bounds-has_edge_named-end : goal.slice_bounds-has_edge_named-end
slice_bounds-has_edge_named-end c = sym (length-take-le 4096 c.args.lists.now (omega arith))
