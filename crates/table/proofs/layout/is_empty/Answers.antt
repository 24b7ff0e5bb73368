-- Start and end are read, and compared.
use Rattle.table.proofs.layout.is_empty.Goals as goal

pub returns : goal.returns
returns c = simp (c.start_at.ensures.value, c.end_at.ensures.value)
