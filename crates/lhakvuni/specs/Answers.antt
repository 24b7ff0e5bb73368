-- Document 01's numbers and values for the answers.
use Rattle.std.specs.Prelude.{◌≡◌, ℕ, Result, Ok, Err}
use Rattle.table.specs.Refusals.{no_input_object, wrong_evidence, short_work, short_out}
use Rattle.table.specs.Answers.{malformed_number}
use Rattle.evidence.specs.Judged.{Judged, row_of, rule_of}
use Rattle.lhakvuni.specs.declared.refusal.Refusal.{Refusal}
use Rattle.lhakvuni.specs.declared.refusal.Refusal.TheVariants.{Malformed, NoInputObject, WrongEvidence, ShortWork, ShortOut}

-- the number of a refusal
abbrev pub refusal_number : Refusal → ℕ
refusal_number (Malformed malformed) = malformed_number malformed
refusal_number NoInputObject = no_input_object
refusal_number WrongEvidence = wrong_evidence
refusal_number ShortWork = short_work
refusal_number (ShortOut need) = short_out

-- what is returned beside it: the need in words of an output that is too short; of any other refusal nothing, and a place for it that held v holds v
abbrev pub need_of : Refusal → ℕ → ℕ
need_of (Malformed malformed) v = v
need_of NoInputObject v = v
need_of WrongEvidence v = v
need_of ShortWork v = v
need_of (ShortOut need) v = need

-- a call that writes rows answers how many it wrote, or refuses
abbrev pub Answer : Type 0
Answer = Result ℕ Refusal

-- 0 for a success, or the refusal's number
abbrev pub number_of : {A : Type 0} → Result A Refusal → ℕ
number_of (Ok a) = 0
number_of (Err refusal) = refusal_number refusal

abbrev pub answer_number : Answer → ℕ
answer_number a = number_of a

-- what a call returns beside the number: the rows of a success, the need in words of an output that is too short; of any other refusal nothing, and a place
-- for it that held v holds v
abbrev pub value_of : Answer → ℕ → ℕ
value_of (Ok n) v = n
value_of (Err refusal) v = need_of refusal v

-- an answer returns a number, and beside it a value: what a place that held v then holds
pub record Returned (a : Answer) (number : ℕ) (value : ℕ → ℕ) : Type 0 where
  pub number_is : answer_number a ≡ number
  pub value_is : (v : ℕ) → value_of a v ≡ value v

-- evidence is judged, or refused
abbrev pub Judgement : Type 0
Judgement = Result Judged Refusal

-- the judgement that a verdict on evidence is
abbrev pub judgement_of : Judged → Judgement
judgement_of judged = Ok judged

-- 0 for evidence that was judged, or the refusal's number
abbrev pub judgement_number : Judgement → ℕ
judgement_number j = number_of j

-- the type row that breaks a rule, NONE where the evidence passes; of a refusal nothing, and a place for it that held v holds v
abbrev pub broken_row : Judgement → ℕ → ℕ
broken_row (Ok judged) v = row_of judged
broken_row (Err refusal) v = v

-- its lowest rule, 0 where the evidence passes
abbrev pub broken_rule : Judgement → ℕ → ℕ
broken_rule (Ok judged) v = rule_of judged
broken_rule (Err refusal) v = v
