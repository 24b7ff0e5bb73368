-- Each check that refuses leaves all as it was; past them the work words are cleared, the counts are filled in, the rows written if they
-- fit, and the work words cleared again.
use Rattle.std.proofs.lemmas.Result.{err_from_is_err_and}
use native.Mathlib.Omega.{arith}
use Rattle.wellformed.proofs.AnswerLaws.{verdict_sound}
use Rattle.rows.proofs.PartLaws.{type_count_lem}
use Rattle.links.specs.Fields.{chain_graph}
use Rattle.chains.proofs.SettleLaws.{cleared_marks}
use Rattle.lhakvuni.proofs.NumberLaws.{header_there, sound_by, readable_by}
use Rattle.lhakvuni.proofs.CallLaws.{records_table, records_work, records_given}
use Rattle.lhakvuni.proofs.calls.records.Goals as goal

pub returns-in_err-check_table : goal.returns-in_err-check_table
returns-in_err-check_table c =
    let p = err_from_is_err_and c.from_residual.result c.from_residual.ensures.1 in
    rw (p.1, p.2) (records_table _ _ _ c.check_table.ensures.result_value _ _ c.check_table.ensures.proper _ c.in_err-check_table.was)

pub layout_of-l-requires : goal.layout_of-l-requires
layout_of-l-requires c = header_there (verdict_sound _ _ _ c.check_table.ensures.result_value c.in_ok-check_table.was)

pub size-need-requires : goal.size-need-requires
size-need-requires c =
    (sound_by (verdict_sound _ _ _ c.check_table.ensures.result_value c.in_ok-check_table.was) c.layout_of-l.ensures.value).laid.types_most

pub returns-then-work-need : goal.returns-then-work-need
returns-then-work-need c =
    records_work _ _ _ c.check_table.ensures.result_value c.in_ok-check_table.was _ c.layout_of-l.ensures.value _ _ (rw c.size-need.ensures at c.if-work-need.true)

pub count_cycles-requires : goal.count_cycles-requires
count_cycles-requires c =
    let s = sound_by (verdict_sound _ _ _ c.check_table.ensures.result_value c.in_ok-check_table.was) c.layout_of-l.ensures.value in
    record { sound_rows = s; types_in_bounds = omega (arith, c.clear.auto.work, c.size-need.ensures, c.if-work-need.false); settled = cleared_marks (chain_graph c.args.words.now) c.size-need.result _ _ c.clear.ensures (omega (arith, c.size-need.ensures, type_count_lem _ _ s.laid)) }

pub write_records-answer-requires : goal.write_records-answer-requires
write_records-answer-requires c =
    let s = verdict_sound _ _ _ c.check_table.ensures.result_value c.in_ok-check_table.was in
    record { readable = readable_by s c.layout_of-l.ensures.value; edges_apart = (s.apart.edges, s.apart.members); types_in_bounds = omega (arith, c.count_cycles.ensures.size, c.clear.auto.work, c.size-need.ensures, c.if-work-need.false) }

pub returns : goal.returns
returns c =
    records_given _ _ _ c.check_table.ensures.result_value c.in_ok-check_table.was _ c.layout_of-l.ensures.value
    _ _ _ _ _ _ _ (rw c.size-need.ensures at c.if-work-need.false) (rw c.size-need.ensures at c.clear.ensures) c.count_cycles.ensures c.write_records-answer.ensures (rw c.size-need.ensures at c.clear-2.ensures)
