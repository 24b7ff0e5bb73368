-- A type that is found is one of the table's.
use Rattle.rows.proofs.FoundTypes.{found_within}
use Rattle.lent.proofs.Table.look_up.Goals as goal

pub returns-clause-below : goal.returns-clause-below
returns-clause-below c = found_within _ _ c.look_up.result c.look_up.ensures
