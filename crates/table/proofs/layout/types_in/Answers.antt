-- `types_in`: the second count of the header.
use Rattle.table.specs.Layout.{type_count}
use Rattle.table.proofs.layout.types_in.Goals as goal

pub returns : goal.returns
unfolding type_count
returns c = c.count_at.ensures.value
