-- Each check that refuses leaves all as it was; past them the work words are cleared, the search leaves them so, and they are cleared again.
use Rattle.std.proofs.lemmas.Result.{err_from_is_err_and}
use Prim.Native.Nat.{◌*◌}
use native.Mathlib.Omega.{arith}
use Rattle.wellformed.proofs.AnswerLaws.{verdict_sound}
use Rattle.rows.proofs.PartLaws.{type_count_lem}
use Rattle.links.specs.Fields.{chain_graph}
use Rattle.chains.proofs.SettleLaws.{cleared_marks}
use Rattle.chains.specs.Work.{work_words}
use Rattle.names.proofs.BoolLaws.{passes, fails}
use Rattle.lhakvuni.proofs.NumberLaws.{header_there, sound_by}
use Rattle.lhakvuni.proofs.CallLaws.{cycle_table, cycle_no_row, cycle_work_short, cycle_below, cycle_given, cleared_again}
use Rattle.lhakvuni.proofs.calls.first_cycle.Goals as goal

pub returns-in_err-check_table : goal.returns-in_err-check_table
returns-in_err-check_table c =
    let p = err_from_is_err_and c.from_residual.result c.from_residual.ensures.1 in
    rw (p.1, p.2) (cycle_table _ _ _ c.check_table.ensures.result_value _ _ _ c.check_table.ensures.proper _ c.in_err-check_table.was)

pub layout_of-l-requires : goal.layout_of-l-requires
layout_of-l-requires c = header_there (verdict_sound _ _ _ c.check_table.ensures.result_value c.in_ok-check_table.was)

pub is_input_object_row-requires : goal.is_input_object_row-requires
is_input_object_row-requires c = sound_by (verdict_sound _ _ _ c.check_table.ensures.result_value c.in_ok-check_table.was) c.layout_of-l.ensures.value

pub returns-then-not-is_input_object_row : goal.returns-then-not-is_input_object_row
returns-then-not-is_input_object_row c =
    cycle_no_row _ _ _ c.check_table.ensures.result_value c.in_ok-check_table.was _ c.layout_of-l.ensures.value _ _ _ (fails c.is_input_object_row.ensures c.if-not-is_input_object_row.true-raw)

pub size-room-requires : goal.size-room-requires
size-room-requires c =
    (sound_by (verdict_sound _ _ _ c.check_table.ensures.result_value c.in_ok-check_table.was) c.layout_of-l.ensures.value).laid.types_most

pub returns-then-work-room : goal.returns-then-work-room
returns-then-work-room c =
    cycle_work_short _ _ _ c.check_table.ensures.result_value c.in_ok-check_table.was _ c.layout_of-l.ensures.value _ (passes c.is_input_object_row.ensures c.if-not-is_input_object_row.false-raw) _ _ (rw c.size-room.ensures at c.if-work-room.true)

pub write_cycle-answer-requires : goal.write_cycle-answer-requires
write_cycle-answer-requires c =
    let s = sound_by (verdict_sound _ _ _ c.check_table.ensures.result_value c.in_ok-check_table.was) c.layout_of-l.ensures.value in
    let low = cycle_below _ _ _ c.check_table.ensures.result_value c.in_ok-check_table.was _ c.layout_of-l.ensures.value _ (passes c.is_input_object_row.ensures c.if-not-is_input_object_row.false-raw) in
    record { sound_rows = s; t_lt_types = low; settled = cleared_marks (chain_graph c.args.words.now) c.size-room.result _ _ c.clear.ensures (omega (arith, c.size-room.ensures, type_count_lem _ _ s.laid)) }

pub returns : goal.returns
returns c =
    cycle_given _ _ _ c.check_table.ensures.result_value c.in_ok-check_table.was _ c.layout_of-l.ensures.value _ (passes c.is_input_object_row.ensures c.if-not-is_input_object_row.false-raw)
    _ _ _ _ _ (rw c.size-room.ensures at c.if-work-room.false) c.write_cycle-answer.ensures.cycle_output
    (cleared_again (work_words * c.layout_of-l.result.types) c.args.work.now _ _ _ (rw c.size-room.ensures at c.clear.ensures) c.write_cycle-answer.ensures.work_unchanged (rw c.size-room.ensures at c.clear-2.ensures))
