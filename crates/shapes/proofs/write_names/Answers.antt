-- One row behind the other.
use Rattle.building.proofs.BuildingLaws.{added_seq}
use Rattle.shapes.proofs.write_names.Goals as goal

pub returns : goal.returns
returns c = added_seq (added_seq c.write_letter_names-at.ensures c.name_row-at.ensures) c.name_row.ensures
