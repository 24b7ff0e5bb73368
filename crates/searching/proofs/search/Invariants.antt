-- `search`: the list is walked in order, and is sorted by level; see proofs/Levels.
use Prim.Native.Nat.{◌≤◌, ◌-◌}
use Rattle.links.specs.Fields.{chain_graph}
use Rattle.searching.proofs.Levels.{Searching}
use Rattle.searching.proofs.search.Given as goal

abbrev pub invariant-loop-head : goal.invariant-loop-head
invariant-loop-head l = (l.n ≤ l.l.types) × (l.head ≤ l.n) × Searching (chain_graph l.links.words.now) l.fn.t.0 l.initial.work l.head l.work l.n

abbrev pub decreases-loop-head : goal.decreases-loop-head
decreases-loop-head l = l.l.types - l.head
