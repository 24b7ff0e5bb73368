-- A name that ends in the text starts in it, at its end or before.
use Rattle.name_section.proofs.name_bytes.Goals as goal

pub returns : goal.returns
returns c = simp (c.name_start-start.ensures.value, c.name_end-end.ensures)
