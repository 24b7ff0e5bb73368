-- `root_name`: what the calls answer, put together as the definition does.
use borrow.Author.Rules.{rules}
use Rattle.table.proofs.LayoutLaws.{inside_roots}
use Rattle.rows.proofs.types.root_name.Goals as goal

pub word_at-requires : goal.word_at-requires
word_at-requires c = rw c.roots.ensures record { inside = inside_roots c.requires.laid; i_lt_rows = search rules }

pub returns : goal.returns
returns c = simp (c.word_at.ensures, c.roots.ensures, c.requires.laid.same)
