-- One section behind the other, and they fill the words.
use Rattle.building.proofs.BuildingLaws.{added_seq}
use Rattle.shapes.proofs.whole_case.table.Goals as goal

pub returns : goal.returns
returns c =
    (added_seq (added_seq (added_seq (added_seq (added_seq c.header-at.ensures c.write_names-at.ensures) c.write_types-at.ensures) c.edge_row-at.ensures) c.write_fields-at.ensures) c.no_roots.ensures).words
