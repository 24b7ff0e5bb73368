-- What the calls for C promise: those of the calls, with the answer's number returned and its value put in its place.
use Rattle.std.specs.Prelude.{◌≡◌, List, ℕ}
use Rattle.lhakvuni.specs.Answers.{Answer, Judgement, answer_number, value_of, judgement_number, broken_row, broken_rule}
use Rattle.lhakvuni.specs.Calls.{RecordsKept, FirstCycleKept, JudgedKept, EvidenceKept}

pub record RecordsExported (text w work out work' out' : List ℕ) (value value' number : ℕ) : Type 0 where
  pub answer : Answer
  pub kept : RecordsKept text w work out work' out' answer
  pub returned : number ≡ answer_number answer
  pub placed : value' ≡ value_of answer value

pub record FirstCycleExported (text w : List ℕ) (t : ℕ) (work out work' out' : List ℕ) (value value' number : ℕ) : Type 0 where
  pub answer : Answer
  pub kept : FirstCycleKept text w t work out work' out' answer
  pub returned : number ≡ answer_number answer
  pub placed : value' ≡ value_of answer value

pub record JudgedExported (text w ev : List ℕ) (row row' rule rule' number : ℕ) : Type 0 where
  pub answer : Judgement
  pub kept : JudgedKept text w ev answer
  pub returned : number ≡ judgement_number answer
  pub row_placed : row' ≡ broken_row answer row
  pub rule_placed : rule' ≡ broken_rule answer rule

pub record EvidenceExported (text w work out work' out' : List ℕ) (value value' number : ℕ) : Type 0 where
  pub answer : Answer
  pub kept : EvidenceKept text w work out work' out' answer
  pub returned : number ≡ answer_number answer
  pub placed : value' ≡ value_of answer value
