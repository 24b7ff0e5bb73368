-- One name behind the other.
use Rattle.building.proofs.BuildingLaws.{added_seq}
use Rattle.shapes.proofs.write_text.Goals as goal

pub returns : goal.returns
returns c = added_seq (added_seq c.write_letters-at.ensures c.one_letter-at.ensures) c.one_letter.ensures
