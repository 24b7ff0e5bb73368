-- A word of the column of starts.
use Rattle.table.proofs.LayoutLaws.{inside_starts}
use Rattle.name_section.proofs.name_start.Goals as goal

pub end_at-requires : goal.end_at-requires
end_at-requires c =
    rw (c.name_starts.ensures, c.index.ensures) record { inside = inside_starts c.requires.laid; i_lt_rows = c.requires.n_lt_names }

pub returns : goal.returns
returns c = rw (c.index.ensures, c.name_starts.ensures) at c.end_at.ensures
