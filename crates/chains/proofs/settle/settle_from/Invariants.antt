-- `settle_from`: each step leaves the marks right; the steps that are left fall.
use mathlib.Core.Path.{◌≡◌}
use Rattle.table.specs.Layout.{type_count}
use Rattle.links.specs.Fields.{chain_graph}
use Rattle.chains.specs.Settle.{Settling}
use Rattle.chains.proofs.settle.settle_from.Given as goal

abbrev pub invariant-loop : goal.invariant-loop
invariant-loop l = (l.types ≡ type_count l.links.words.now) × Settling (chain_graph l.links.words.now) l.initial.work l.work
