-- Each check that refuses leaves all as it was; past them the work words are cleared, by the producer or where there is no room.
use Rattle.std.proofs.lemmas.Result.{err_from_is_err_and}
use mathlib.Core.Path.{refl}
use native.Mathlib.Omega.{arith}
use Rattle.wellformed.proofs.AnswerLaws.{verdict_sound}
use Rattle.lhakvuni.proofs.NumberLaws.{header_there, sound_by}
use Rattle.lhakvuni.proofs.EvidenceLaws.{make_table, make_work, make_short, make_rooms, make_given}
use Rattle.lhakvuni.proofs.making.make_evidence.Goals as goal

pub returns-in_err-check_table : goal.returns-in_err-check_table
returns-in_err-check_table c =
    let p = err_from_is_err_and c.from_residual.result c.from_residual.ensures.1 in
    rw (p.1, p.2) (make_table _ _ _ c.check_table.ensures.result_value _ _ c.check_table.ensures.proper _ c.in_err-check_table.was)

pub layout_of-l-requires : goal.layout_of-l-requires
layout_of-l-requires c = header_there (verdict_sound _ _ _ c.check_table.ensures.result_value c.in_ok-check_table.was)

pub overflow_mul-need : goal.overflow_mul-need
overflow_mul-need c =
    let h = (sound_by (verdict_sound _ _ _ c.check_table.ensures.result_value c.in_ok-check_table.was) c.layout_of-l.ensures.value).laid.types_most in omega (arith, h)

pub returns-then-work-need : goal.returns-then-work-need
returns-then-work-need c =
    make_work _ _ _ c.check_table.ensures.result_value c.in_ok-check_table.was _ c.layout_of-l.ensures.value _ _ c.if-work-need.true

pub returns-then-out-need : goal.returns-then-out-need
returns-then-out-need c =
    make_short _ _ _ c.check_table.ensures.result_value c.in_ok-check_table.was _ c.layout_of-l.ensures.value _ _ c.if-work-need.false _ _ refl c.if-out-need.true c.clear.ensures

pub make_evidence-requires : goal.make_evidence-requires
make_evidence-requires c =
    record { sound_rows = sound_by (verdict_sound _ _ _ c.check_table.ensures.result_value c.in_ok-check_table.was) c.layout_of-l.ensures.value; rooms = make_rooms _ _ _ c.check_table.ensures.result_value c.in_ok-check_table.was _ c.layout_of-l.ensures.value _ _ c.if-work-need.false c.if-out-need.false }

pub returns : goal.returns
returns c =
    make_given _ _ _ c.check_table.ensures.result_value c.in_ok-check_table.was _ c.layout_of-l.ensures.value _ _ c.if-work-need.false _ _ c.if-out-need.false c.make_evidence.ensures.made c.make_evidence.ensures.work_after
