-- What the functions between the calls and the layers below promise each other about the output.
use Rattle.std.specs.Prelude.{List, ℕ, length}
use Rattle.links.specs.Chains.{Graph}
use Rattle.chains.specs.Answer.{CycleRows}
use Rattle.records.specs.Records.{flat}
use Rattle.validation.specs.Validation.{records as list_of}
use Rattle.lhakvuni.specs.Answers.{Answer}
use Rattle.lhakvuni.specs.Promise.{Output}

-- the records that the counts give, written if they fit
abbrev pub RecordsOutput : (text w : List ℕ) (counts : ℕ → ℕ) (before after : List ℕ) (a : Answer) → Type 0
RecordsOutput text w counts before after a = Output (length (list_of text w counts)) (flat (list_of text w counts)) before after a

-- the first cycle of t, written if it fits
pub record CycleOutput (g : Graph) (t : ℕ) (before after : List ℕ) (a : Answer) : Type 0 where
  pub rows : List ℕ
  pub first : CycleRows g t rows
  pub output : Output (length rows) rows before after a
