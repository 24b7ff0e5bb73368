-- Document 01, "Boards for the proof table": evidence for A{b: B!} B{b: B!}, by computation.
use Rattle.std.specs.Prelude.{◌≡◌, refl, List, ◌∷◌, [], ◌++◌, ℕ, Some, None}
use Rattle.names.specs.Count.{every}
use Rattle.table.specs.Kinds.{input_object_kind}
use Rattle.table.specs.Layout.{none, name_count, type_count, edge_count, field_count, types_at, edges_at, fields_at, word_at, start_at}
use Rattle.rows.specs.Search.{find}
use Rattle.rows.specs.Types.{type_named, defined}
use Rattle.chains.specs.Boards.{tail_words}
use Rattle.links.specs.Fields.{input_object_named, chain_target, chains_end}
use Rattle.evidence.specs.Rules.{any, rule1, rule2, rule3, rule4, rule5, rule6, rule7, lowest}
use Rattle.evidence.specs.Judged.{Judged, row_of, rule_of, judged_to, judged, judged_of}

-- with every definition open
computes : List ℕ → Judged
unfolding judged judged_to lowest rule1 rule2 rule3 rule4 rule5 rule6 rule7 any every chain_target chains_end input_object_named input_object_kind type_named defined find name_count type_count edge_count field_count types_at edges_at fields_at word_at start_at
computes ev = judged_of tail_words ev

-- the words of a row, in document 01's order; those of a type that is not marked; and those of B, which leads itself
abbrev evidence_row : (number leader out_field out_distance in_field in_depth : ℕ) → List ℕ
evidence_row number leader out_field out_distance in_field in_depth = number ∷ leader ∷ out_field ∷ out_distance ∷ in_field ∷ in_depth ∷ []

abbrev unmarked : ℕ → List ℕ
unmarked number = evidence_row number none none none none none

abbrev leading_b : List ℕ
leading_b = evidence_row 0 1 1 0 none 0

passes : judged_of tail_words (unmarked 1 ++ leading_b) ≡ None
unfolding computes
passes = refl

-- number 0 for A breaks rule 7, in row 0
number_0 : judged_of tail_words (unmarked 0 ++ leading_b) ≡ Some (record { row = record { 0 = 0 }; rule = 7 })
unfolding computes
number_0 = refl

-- A as it leads to a cycle, but marked: its leader B is right, and so is its out field, and no field comes back
marked_tail : judged_of tail_words (evidence_row 1 1 0 1 1 1 ++ leading_b) ≡ Some (record { row = record { 0 = 0 }; rule = 6 })
unfolding computes
marked_tail = refl

-- the same where B is not marked: A's leader does not name itself as leader
leader_unmarked : judged_of tail_words (evidence_row 1 1 0 1 1 1 ++ unmarked 0) ≡ Some (record { row = record { 0 = 0 }; rule = 3 })
unfolding computes
leader_unmarked = refl

-- the numbers of the answers
pass_numbers : (row_of None ≡ none) × (rule_of None ≡ 0)
pass_numbers = (refl, refl)
