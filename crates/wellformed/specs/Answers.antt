-- Document 01's number for the verdict on a table.
use Rattle.std.specs.Prelude.{ℕ, ◌≤◌, ⊤, Result, Ok, Err}
use Rattle.table.specs.declared.refusal.Malformed.{Malformed}
use Rattle.table.specs.Answers.{malformed_number}

-- a table is well-formed, or malformed for a reason
abbrev pub Verdict : Type 0
Verdict = Result ⊤ Malformed

-- 0 for a well-formed table, or the refusal's number
abbrev pub verdict_number : Verdict → ℕ
verdict_number (Ok well_formed) = 0
verdict_number (Err malformed) = malformed_number malformed

-- a refusal's number isn't 0, so that a verdict's number tells which verdict it is (`one_verdict` of proofs/AnswerLaws)
abbrev pub Proper : Verdict → Type 0
Proper (Ok well_formed) = Unit
Proper (Err malformed) = 1 ≤ malformed_number malformed
