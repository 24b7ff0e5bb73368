-- `has_few`: the rows are counted.
use Rattle.lookup.proofs.arguments.has_few.Goals as goal

pub returns : goal.returns
returns c = simp c.argument_rows.ensures
