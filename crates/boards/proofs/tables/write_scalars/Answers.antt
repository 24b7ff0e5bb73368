-- One section behind the other.
use Rattle.building.proofs.BuildingLaws.{added_seq}
use Rattle.boards.proofs.tables.write_scalars.Goals as goal

pub returns : goal.returns
returns c =
    added_seq (added_seq (added_seq c.header-names_at.ensures c.write_letter_names-types_at.ensures) c.write_types-roots_at.ensures) c.no_roots.ensures
