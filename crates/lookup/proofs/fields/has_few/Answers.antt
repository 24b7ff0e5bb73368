-- `has_few`: the rows are counted.
use Rattle.lookup.proofs.fields.has_few.Goals as goal

pub returns : goal.returns
returns c = simp c.field_rows.ensures
