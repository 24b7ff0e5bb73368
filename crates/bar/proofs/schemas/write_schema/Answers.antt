-- One section behind the other.
use Rattle.building.proofs.BuildingLaws.{added_seq}
use Rattle.bar.proofs.schemas.write_schema.Goals as goal

pub returns : goal.returns
returns c =
    added_seq (added_seq (added_seq (added_seq c.header-at.ensures c.write_names-at.ensures) c.write_types-at.ensures) c.edge_row-at.ensures) c.write_fields.ensures
