-- Document 01, "Evidence": the six words of each type, and when a type is marked.
use Rattle.std.specs.Prelude.{List, Bool, not, ℕ, ◌+◌, ◌*◌, get_or, eqb}
use Rattle.table.specs.Layout.{none}
use Rattle.evidence.specs.declared.row.EvidenceColumn.{EvidenceColumn}
use Rattle.evidence.specs.declared.row.EvidenceColumn.TheVariants.{Number, Leader, OutField, OutDistance, InField, InDepth}

-- six words per type
abbrev pub evidence_words : ℕ
evidence_words = 6

-- in this order: number, leader, out field, out distance, in field, in depth
abbrev pub place_of : EvidenceColumn → ℕ
place_of Number = 0
place_of Leader = 1
place_of OutField = 2
place_of OutDistance = 3
place_of InField = 4
place_of InDepth = 5

-- a word of row t
abbrev pub word_of : List ℕ → ℕ → EvidenceColumn → ℕ
word_of ev t k = get_or ev (evidence_words * t + place_of k) 0

module _ (ev : List ℕ) (t : ℕ) where
  abbrev pub number : ℕ
  number = word_of ev t Number

  abbrev pub leader : ℕ
  leader = word_of ev t Leader

  abbrev pub out_field : ℕ
  out_field = word_of ev t OutField

  abbrev pub out_distance : ℕ
  out_distance = word_of ev t OutDistance

  abbrev pub in_field : ℕ
  in_field = word_of ev t InField

  abbrev pub in_depth : ℕ
  in_depth = word_of ev t InDepth

  -- marked means leader isn't NONE
  abbrev pub marked : Bool
  marked = not (eqb leader none)

  -- the row leads itself
  abbrev pub leads : Bool
  leads = eqb leader t
