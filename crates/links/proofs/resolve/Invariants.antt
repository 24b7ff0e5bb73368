-- `resolve`: after f rows the cells of those fields are right.
use Rattle.std.proofs.Common.{◌≡◌, ℕ, ◌<◌, get_or}
use Rattle.table.specs.Layout.{type_count}
use Rattle.rows.specs.Index.{cell_of}
use Rattle.links.specs.Fields.{chain_target}
use Rattle.links.proofs.resolve.Given as goal

abbrev pub invariant-loop-f : goal.invariant-loop-f
invariant-loop-f l = (h : ℕ) → h < l.f → get_or l.targets h 0 ≡ cell_of (chain_target l.words h) (type_count l.words)
