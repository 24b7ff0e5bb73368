-- All types are one run from 0.
use native.Mathlib.Omega.{arith}
use Rattle.table.proofs.LayoutLaws.{inside_type}
use Rattle.wellformed.proofs.WordLaws.{type_names_below}
use Rattle.wellformed.proofs.refusal6.names_distinct.Goals as goal

pub all_distinct-requires : goal.all_distinct-requires
all_distinct-requires c =
    rw c.type_names.ensures record { inside = inside_type c.requires.laid 0 (omega arith); from_le_to = (omega arith, omega arith); all_below = type_names_below c.requires.laid c.requires.l_value }
