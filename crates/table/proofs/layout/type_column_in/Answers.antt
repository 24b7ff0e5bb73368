-- `type_column_in`: the type rows start behind the header and the names, whose count is the first word.
use mathlib.Core.Path.{refl}
use Rattle.table.specs.Layout.{name_count, type_count, types_at}
use Rattle.table.proofs.layout.type_column_in.Goals as goal

pub returns : goal.returns
unfolding name_count type_count types_at
returns c = simp (c.count_at-2.ensures.value, c.count_at.ensures.value) refl
