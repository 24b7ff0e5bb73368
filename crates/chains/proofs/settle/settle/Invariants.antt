-- `settle`: each walk leaves the marks right, and those of the walks are taken away.
use mathlib.Core.Path.{◌≡◌}
use Rattle.table.specs.Layout.{type_count}
use Rattle.links.specs.Fields.{chain_graph}
use Rattle.chains.specs.Settle.{Settling}
use Rattle.chains.proofs.settle.settle.Given as goal

abbrev pub invariant-loop-t : goal.invariant-loop-t
invariant-loop-t l = (l.types ≡ type_count l.links.words.now) × Settling (chain_graph l.links.words.now) l.initial.work l.work
