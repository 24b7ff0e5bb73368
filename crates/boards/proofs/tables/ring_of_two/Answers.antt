-- One section behind the other, and they fill the words.
use Rattle.building.proofs.BuildingLaws.{added_seq}
use Rattle.boards.proofs.tables.ring_of_two.Goals as goal

pub returns : goal.returns
returns c =
    (added_seq (added_seq (added_seq (added_seq (added_seq c.header-at.ensures c.write_ring_names-at.ensures) c.write_ring_types-at.ensures) c.field_row-at.ensures) c.field_row-at-2.ensures) c.no_roots.ensures).words
