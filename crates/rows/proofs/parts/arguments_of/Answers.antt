-- A sound run lies in its section, and the section in the table.
use Rattle.rows.proofs.PartLaws.{arguments_cut, arguments_part}
use Rattle.rows.proofs.parts.arguments_of.Goals as goal

pub run_of-requires : goal.run_of-requires
run_of-requires c =
    let p = arguments_cut c.args.words.now c.args.l c.requires.sound_rows c.args.f c.requires.f_lt_fields _ _ c.argument_names.ensures c.arguments_ends.ensures in
    record { inside = p.0; i_lt_rows = p.1.0; i_bound = p.1.1.0; i_in_bounds = p.1.1.1 }

pub returns : goal.returns
returns c =
    let p = arguments_part c.args.words.now c.args.l c.requires.sound_rows c.args.f c.requires.f_lt_fields _ _ c.argument_names.ensures c.arguments_ends.ensures _ c.run_of.ensures in
    record { result_value = p.0; argument_part = p.1 }
