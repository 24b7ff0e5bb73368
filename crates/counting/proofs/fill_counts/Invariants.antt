-- Settled types are marked first; then each turn fills in one count.
use mathlib.Core.Path.{◌≡◌}
use Rattle.table.specs.Layout.{type_count}
use Rattle.links.specs.Fields.{chain_graph}
use Rattle.counting.proofs.CountingLaws.{Counting}
use Rattle.counting.proofs.fill_counts.Given as goal

abbrev pub invariant-loop-t : goal.invariant-loop-t
invariant-loop-t l = (l.types ≡ type_count l.links.words.now) × Counting (chain_graph l.links.words.now) l.types l.initial.work l.work l.t
