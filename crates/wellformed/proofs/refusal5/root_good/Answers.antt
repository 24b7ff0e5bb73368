-- The root's word is compared with the count of names and with NONE.
use Rattle.table.proofs.LayoutLaws.{inside_roots}
use Rattle.wellformed.proofs.refusal5.root_good.Goals as goal

pub word_at-requires : goal.word_at-requires
word_at-requires c = rw c.roots.ensures record { inside = inside_roots c.requires.laid; i_lt_rows = c.requires.op_lt_root_words }
