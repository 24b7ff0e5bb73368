-- Two words below 2^32 are added, so the sum does not wrap.
use Rattle.table.proofs.LayoutLaws.{inside_lengths}
use Rattle.name_section.proofs.name_end.Goals as goal

pub end_at-requires : goal.end_at-requires
end_at-requires c =
    rw (c.name_lengths.ensures, c.index.ensures) record { inside = inside_lengths c.requires.laid; i_lt_rows = c.requires.n_lt_names }

pub returns : goal.returns
returns c = simp (c.name_start.ensures.value, c.end_at.ensures.value, c.index.ensures, c.name_lengths.ensures)
