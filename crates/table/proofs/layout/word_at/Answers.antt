-- The column lies within the table, so the index is below the length, and no sum wraps.
use mathlib.Core.Path.{refl}
use native.Mathlib.Omega.{arith}
use Rattle.table.specs.Layout.{word_at}
use Rattle.table.proofs.layout.word_at.Goals as goal

pub overflow_mul-at : goal.overflow_mul-at
overflow_mul-at c = omega (arith, c.requires.inside c.args.i c.requires.i_lt_rows)

pub overflow_add-at : goal.overflow_add-at
overflow_add-at c = omega (arith, c.requires.inside c.args.i c.requires.i_lt_rows)

pub offset_bounds-words-at : goal.offset_bounds-words-at
offset_bounds-words-at c = omega (arith, c.requires.inside c.args.i c.requires.i_lt_rows)

pub bounds-words-at : goal.bounds-words-at
bounds-words-at c = c.requires.inside c.args.i c.requires.i_lt_rows

pub returns : goal.returns
unfolding word_at
returns c = refl
