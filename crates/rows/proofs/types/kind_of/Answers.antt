-- A sound table's kinds are below their number.
use borrow.Author.Rules.{rules}
use Rattle.rows.proofs.PartLaws.{type_kind_below}
use Rattle.rows.proofs.types.kind_of.Goals as goal

pub of-requires : goal.of-requires
of-requires c = rw c.type_kind.ensures (type_kind_below _ _ c.requires.sound_rows _ (search rules))
