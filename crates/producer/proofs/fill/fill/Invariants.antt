-- `fill`: the rows below t are filled.
use Rattle.table.specs.Layout.{type_count}
use Rattle.links.specs.Fields.{chain_graph}
use Rattle.chains.specs.Work.{trail_at}
use Rattle.producer.specs.Produced.{Filled}
use Rattle.searching.specs.Search.{Cleared}
use Rattle.producer.proofs.fill.fill.Given as goal

abbrev pub invariant-loop-t : goal.invariant-loop-t
invariant-loop-t l = Filled (chain_graph l.links.words.now) l.k l.t l.initial.out l.out × Cleared (trail_at (type_count l.links.words.now)) l.initial.work l.work
