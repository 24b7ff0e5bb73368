-- A run and a default are read; the answer is the definition with them put in.
use native.Mathlib.Omega.{arith}
use Rattle.table.proofs.LayoutLaws.{inside_field}
use Rattle.wellformed.proofs.refusal5.field_fits.Goals as goal

pub is_empty-requires : goal.is_empty-requires
is_empty-requires c =
    rw c.arguments_ends.ensures record { inside = inside_field c.requires.laid 3 (omega arith); i_lt_rows = c.requires.f_lt_fields }

pub word_at-requires : goal.word_at-requires
word_at-requires c =
    rw c.field_defaults.ensures record { inside = inside_field c.requires.laid 4 (omega arith); i_lt_rows = c.requires.f_lt_fields }
