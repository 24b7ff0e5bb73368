-- What the calls promise: the checks of each in their order, and what it writes.
use Rattle.std.specs.Prelude.{◌≡◌, Bool, ◌&&◌, cond, List, ℕ, zero, suc, ◌*◌, ◌<◌, length, ltb, eqb}
use Rattle.table.specs.Layout.{type_count}
use Rattle.table.specs.Refusals.{no_input_object, wrong_evidence, short_work}
use Rattle.wellformed.specs.WellFormed.{refusal}
use Rattle.records.specs.declared.Record.{Record}
use Rattle.records.specs.Records.{flat}
use Rattle.validation.specs.Validation.{records as list_of}
use Rattle.links.specs.Fields.{is_input_object, chain_graph}
use Rattle.chains.specs.Work.{work_words}
use Rattle.chains.specs.Answer.{CycleRows, CycleCount}
use Rattle.evidence.specs.Words.{evidence_words}
use Rattle.evidence.specs.Judged.{judged_of}
use Rattle.evidence.specs.Canonical.{Canonical}
use Rattle.lhakvuni.specs.Answers.{Answer, Judgement, judgement_of, judgement_number}
use Rattle.lhakvuni.specs.Promise.{Promised}

-- a refusal, and else what follows
abbrev pub or_else : ℕ → ℕ → ℕ
or_else zero next = next
or_else (suc n) next = suc n

-- the row is that of an input object
unfoldable pub input_object_at : (w : List ℕ) (t : ℕ) → Bool
input_object_at w t = ltb t (type_count w) && is_input_object w t

-- first cycle asked for no type, or for one that is no input object
unfoldable pub row_number : (w : List ℕ) (t : ℕ) → ℕ
row_number w t = cond (input_object_at w t) 0 no_input_object

-- a work table that is too short, k words for each type: `work_words` for records and first cycle, and for making evidence as many as it writes
unfoldable pub work_number : (k : ℕ) (w work : List ℕ) → ℕ
work_number k w work = cond (ltb (length work) (k * type_count w)) short_work 0

-- evidence that has not six words for each type
unfoldable pub evidence_number : (w ev : List ℕ) → ℕ
evidence_number w ev = cond (eqb (length ev) (evidence_words * type_count w)) 0 wrong_evidence

-- records: the table's refusals, then the work table
unfoldable pub records_number : (text w work : List ℕ) → ℕ
records_number text w work = or_else (refusal text w) (work_number work_words w work)

-- first cycle: the table's refusals, then the row, then the work table
unfoldable pub cycle_number : (text w : List ℕ) (t : ℕ) (work : List ℕ) → ℕ
cycle_number text w t work = or_else (refusal text w) (or_else (row_number w t) (work_number work_words w work))

-- checking evidence: the table's refusals, then the evidence's length
unfoldable pub judge_number : (text w ev : List ℕ) → ℕ
judge_number text w ev = or_else (refusal text w) (evidence_number w ev)

-- making evidence: the table's refusals, then the work table
unfoldable pub make_number : (text w work : List ℕ) → ℕ
make_number text w work = or_else (refusal text w) (work_number evidence_words w work)

-- rs is the list of records of a table: document 01's order, with each type's count of fields in its first cycle
pub record Listed (text w : List ℕ) (rs : List Record) : Type 0 where
  pub counts : ℕ → ℕ
  pub right : (t : ℕ) → t < type_count w → CycleCount (chain_graph w) t (counts t)
  pub list : rs ≡ list_of text w counts

-- what `records` promises: the list of records of the table is written, one row each
pub record RecordsKept (text w work out work' out' : List ℕ) (a : Answer) : Type 0 where
  pub rows : List Record
  pub listed : Listed text w rows
  pub promise : Promised (records_number text w work) (work_words * type_count w) (length rows) (flat rows) work out work' out' a

-- what `first_cycle` promises: the field rows of the first cycle of type t are written, one word each; none where there is no closed chain
pub record FirstCycleKept (text w : List ℕ) (t : ℕ) (work out work' out' : List ℕ) (a : Answer) : Type 0 where
  pub rows : List ℕ
  pub first : CycleRows (chain_graph w) t rows
  pub promise : Promised (cycle_number text w t work) (work_words * type_count w) (length rows) rows work out work' out' a

-- what `check_evidence` promises: the first refusal's number, and with none the verdict on the evidence; what is lent is only read
pub record JudgedKept (text w ev : List ℕ) (a : Judgement) : Type 0 where
  pub number_is : judgement_number a ≡ judge_number text w ev
  pub judged : judge_number text w ev ≡ 0 → a ≡ judgement_of (judged_of w ev)

-- what `make_evidence` promises: the evidence of our producer is written, six words for each type
pub record EvidenceKept (text w work out work' out' : List ℕ) (a : Answer) : Type 0 where
  pub rows : List ℕ
  pub canonical : Canonical (chain_graph w) rows
  pub promise : Promised (make_number text w work) (evidence_words * type_count w) (type_count w) rows work out work' out' a
