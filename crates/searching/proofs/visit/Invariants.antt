-- `visit`: the chain fields below f lead to marked types.
use Rattle.links.specs.Fields.{chain_graph}
use Rattle.searching.specs.Search.{Visited}
use Rattle.searching.proofs.visit.Given as goal

abbrev pub invariant-loop-f : goal.invariant-loop-f
invariant-loop-f l = Visited (chain_graph l.links.words.now) l.fn.s.0 l.f l.level l.initial.work l.listed l.work l.n
