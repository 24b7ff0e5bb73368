-- Each check that refuses gives its number; past them the judge answers.
use Rattle.std.proofs.lemmas.Result.{err_from_is_err_and}
use mathlib.Core.Path.{ap}
use native.Mathlib.Omega.{arith}
use Rattle.wellformed.proofs.AnswerLaws.{verdict_sound}
use Rattle.lhakvuni.proofs.NumberLaws.{header_there, sound_by}
use Rattle.lhakvuni.specs.Answers.{judgement_of}
use Rattle.lhakvuni.proofs.EvidenceLaws.{judge_table, judge_length, judge_given}
use Rattle.lhakvuni.proofs.judging.check_evidence.Goals as goal

pub overflow_mul-l : goal.overflow_mul-l
overflow_mul-l c =
    let h = (sound_by (verdict_sound _ _ _ c.check_table.ensures.result_value c.in_ok-check_table.was) c.layout_of-l.ensures.value).laid.types_most in
    omega (arith, h)

pub returns-in_err-check_table : goal.returns-in_err-check_table
returns-in_err-check_table c =
    let p = err_from_is_err_and c.from_residual.result c.from_residual.ensures.1 in
    rw (p.1, p.2) (judge_table _ _ _ c.check_table.ensures.result_value _ c.check_table.ensures.proper _ c.in_err-check_table.was)

pub layout_of-l-requires : goal.layout_of-l-requires
layout_of-l-requires c = header_there (verdict_sound _ _ _ c.check_table.ensures.result_value c.in_ok-check_table.was)

pub returns-then-evidence-l : goal.returns-then-evidence-l
returns-then-evidence-l c =
    judge_length _ _ _ c.check_table.ensures.result_value _ c.in_ok-check_table.was _ c.layout_of-l.ensures.value c.if-evidence-l.true

pub check_evidence-requires : goal.check_evidence-requires
check_evidence-requires c = sound_by (verdict_sound _ _ _ c.check_table.ensures.result_value c.in_ok-check_table.was) c.layout_of-l.ensures.value

pub returns : goal.returns
returns c =
    judge_given _ _ _ c.check_table.ensures.result_value _ c.in_ok-check_table.was _ c.layout_of-l.ensures.value _ c.if-evidence-l.false (ap judgement_of c.check_evidence.ensures)
