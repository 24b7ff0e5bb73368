-- `type_name`: what the calls answer, put together as the definition does.
use borrow.Author.Rules.{rules}
use lib.Dec.{lit<}
use Rattle.table.proofs.LayoutLaws.{inside_type}
use Rattle.rows.proofs.types.type_name.Goals as goal

pub word_at-requires : goal.word_at-requires
word_at-requires c =
    rw (c.type_names.ensures, c.index.ensures) record { inside = inside_type c.requires.laid 0 (lit< tt); i_lt_rows = search rules }

pub returns : goal.returns
returns c = simp (c.word_at.ensures, c.type_names.ensures, c.index.ensures, c.requires.laid.same)
