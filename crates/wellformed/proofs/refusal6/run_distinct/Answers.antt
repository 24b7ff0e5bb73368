-- Good ends put the run in its section, whose words are numbers of names.
use Rattle.columns.proofs.ColumnLaws.{runs}
use Rattle.wellformed.proofs.refusal6.run_distinct.Goals as goal

pub all_distinct-requires : goal.all_distinct-requires
all_distinct-requires c =
    let h = runs _ _ _ c.requires.rows_value in
    record { inside = c.requires.inside; from_le_to = simp (c.start_at.ensures.value, c.end_at.ensures.value, c.index.ensures, c.index-2.ensures) (h.rise c.args.t.0 c.requires.t_lt_rows, h.inside c.args.t.0 c.requires.t_lt_rows); all_below = c.requires.all_below }
