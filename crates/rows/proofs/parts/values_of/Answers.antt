-- A sound run lies in its section, and the section in the table.
use Rattle.rows.proofs.PartLaws.{values_cut, values_part}
use Rattle.rows.proofs.parts.values_of.Goals as goal

pub run_of-requires : goal.run_of-requires
run_of-requires c =
    let p = values_cut c.args.words.now c.args.l c.requires.sound_rows c.args.t.0 c.requires.t_lt_types _ _ c.value_names.ensures c.values_ends.ensures in
    rw c.index.ensures (record { inside = p.0; i_lt_rows = p.1.0; i_bound = p.1.1.0; i_in_bounds = p.1.1.1 })

pub returns : goal.returns
returns c =
    let p = values_part c.args.words.now c.args.l c.requires.sound_rows c.args.t.0 c.requires.t_lt_types _ _ c.value_names.ensures c.values_ends.ensures _ (rw c.index.ensures at c.run_of.ensures) in
    record { result_value = p.0; name_part = p.1 }
