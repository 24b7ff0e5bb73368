-- Four runs and a kind are read; the answer is the definition with them put in.
use native.Mathlib.Omega.{arith}
use Rattle.table.proofs.LayoutLaws.{inside_type}
use Rattle.wellformed.proofs.refusal5.sections_fit.Goals as goal

pub word_at-k-requires : goal.word_at-k-requires
word_at-k-requires c =
    rw (c.type_kinds.ensures, c.index-row.ensures) record { inside = inside_type c.requires.laid 1 (omega arith); i_lt_rows = c.requires.t_lt_types }

pub is_empty-requires : goal.is_empty-requires
is_empty-requires c =
    rw (c.edges_ends.ensures, c.index-row.ensures) record { inside = inside_type c.requires.laid 3 (omega arith); i_lt_rows = c.requires.t_lt_types }

pub is_empty-requires-2 : goal.is_empty-requires-2
is_empty-requires-2 c =
    rw (c.fields_ends.ensures, c.index-row.ensures) record { inside = inside_type c.requires.laid 4 (omega arith); i_lt_rows = c.requires.t_lt_types }

pub is_empty-requires-3 : goal.is_empty-requires-3
is_empty-requires-3 c =
    rw (c.members_ends.ensures, c.index-row.ensures) record { inside = inside_type c.requires.laid 5 (omega arith); i_lt_rows = c.requires.t_lt_types }

pub is_empty-requires-4 : goal.is_empty-requires-4
is_empty-requires-4 c =
    rw (c.values_ends.ensures, c.index-row.ensures) record { inside = inside_type c.requires.laid 6 (omega arith); i_lt_rows = c.requires.t_lt_types }
