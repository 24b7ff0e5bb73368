-- The kind's word is that of an input object.
use Rattle.table.specs.Kinds.{input_object_kind}
use Rattle.links.proofs.is_input_object.Goals as goal

pub returns : goal.returns
unfolding input_object_kind
returns c = simp (c.is.ensures, c.type_kind.ensures)
