-- A table that the check finds well-formed is sound, and as long as its header at least.
use Rattle.std.proofs.Common.{arith}
use mathlib.Core.Path.{ap, sym, ◌∙◌}
use Rattle.wellformed.specs.Answers.{verdict_number}
use Rattle.wellformed.proofs.AnswerLaws.{verdict_sound}
use Rattle.rows.proofs.ReadableLaws.{sound_rows}
use Rattle.shapes.proofs.sound.sound_layout.Goals as goal

pub layout_of-requires : goal.layout_of-requires
layout_of-requires c =
    let laid = (verdict_sound _ _ _ c.check_table.ensures.result_value c.in_ok-check_table.was).laid in omega arith

pub returns-clause-verdict : goal.returns-clause-verdict
returns-clause-verdict c = sym c.check_table.ensures.result_value ∙ ap verdict_number c.in_ok-check_table.was

pub returns-clause-sound : goal.returns-clause-sound
returns-clause-sound c =
    rw c.layout_of.ensures.value (sound_rows (verdict_sound _ _ _ c.check_table.ensures.result_value c.in_ok-check_table.was))
