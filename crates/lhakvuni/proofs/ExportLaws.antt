-- The calls for C: each promise allows one answer only, the places for values included.
use mathlib.Core.Path.{◌≡◌, sym, ap, ◌∙◌}
use mathlib.Core.List.{List}
use Prim.Native.Nat.{ℕ}
use Rattle.wellformed.specs.WellFormed.{refusal}
use Rattle.lhakvuni.specs.Answers.{Answer, Judgement, answer_number, value_of, judgement_number, broken_row, broken_rule}
use Rattle.lhakvuni.specs.Exports.{RecordsExported, FirstCycleExported, JudgedExported, EvidenceExported}
use Rattle.lhakvuni.proofs.OneAnswer.{one_records, one_first_cycle}
use Rattle.lhakvuni.proofs.EvidenceLaws.{one_judgement, one_evidence}

-- `lv_check_table`: the number
pub one_table_exported : (text w : List ℕ) (n₁ n₂ : ℕ) → n₁ ≡ refusal text w → n₂ ≡ refusal text w → n₁ ≡ n₂
one_table_exported text w n₁ n₂ p q = p ∙ sym q

-- one answer is returned by one number and put into its place as one value
returned_same : (a b : Answer) (v v₁ v₂ n₁ n₂ : ℕ) → a ≡ b → n₁ ≡ answer_number a → n₂ ≡ answer_number b → v₁ ≡ value_of a v → v₂ ≡ value_of b v → (n₁ ≡ n₂) × (v₁ ≡ v₂)
returned_same a b v v₁ v₂ n₁ n₂ e m n p q = (m ∙ ap answer_number e ∙ sym n, p ∙ ap (λ (x : Answer). value_of x v) e ∙ sym q)

module _ (text w work out work₁ out₁ work₂ out₂ : List ℕ) (v v₁ v₂ n₁ n₂ : ℕ) where
  -- the number, the value, the work table and the output are one
  abbrev Same : Type 0
  Same = ((n₁ ≡ n₂) × (v₁ ≡ v₂)) × ((work₁ ≡ work₂) × (out₁ ≡ out₂))

  -- `lv_records`
  pub one_records_exported : RecordsExported text w work out work₁ out₁ v v₁ n₁ → RecordsExported text w work out work₂ out₂ v v₂ n₂ → Same
  one_records_exported p q =
      let one = one_records text w work out work₁ out₁ work₂ out₂ p.answer q.answer p.kept q.kept in
      (returned_same p.answer q.answer v v₁ v₂ n₁ n₂ one.0 p.returned q.returned p.placed q.placed, one.1)

  -- `lv_first_cycle`
  pub one_first_cycle_exported : (t : ℕ) → FirstCycleExported text w t work out work₁ out₁ v v₁ n₁ → FirstCycleExported text w t work out work₂ out₂ v v₂ n₂ → Same
  one_first_cycle_exported t p q =
      let one = one_first_cycle text w work out work₁ out₁ work₂ out₂ p.answer q.answer t p.kept q.kept in
      (returned_same p.answer q.answer v v₁ v₂ n₁ n₂ one.0 p.returned q.returned p.placed q.placed, one.1)

  -- `lv_make_evidence`
  pub one_evidence_exported : EvidenceExported text w work out work₁ out₁ v v₁ n₁ → EvidenceExported text w work out work₂ out₂ v v₂ n₂ → Same
  one_evidence_exported p q =
      let one = one_evidence text w work out work₁ out₁ work₂ out₂ p.answer q.answer p.kept q.kept in
      (returned_same p.answer q.answer v v₁ v₂ n₁ n₂ one.0 p.returned q.returned p.placed q.placed, one.1)

-- `lv_check_evidence`: the number, the row and the rule
pub one_judgement_exported : (text w ev : List ℕ) (row row₁ row₂ rule rule₁ rule₂ n₁ n₂ : ℕ) → JudgedExported text w ev row row₁ rule rule₁ n₁
    → JudgedExported text w ev row row₂ rule rule₂ n₂ → (n₁ ≡ n₂) × (row₁ ≡ row₂) × (rule₁ ≡ rule₂)
one_judgement_exported text w ev row row₁ row₂ rule rule₁ rule₂ n₁ n₂ p q =
    let one = one_judgement text w ev p.answer q.answer p.kept q.kept in
    (p.returned ∙ ap judgement_number one ∙ sym q.returned, p.row_placed ∙ ap (λ (j : Judgement). broken_row j row) one ∙ sym q.row_placed, p.rule_placed ∙ ap (λ (j : Judgement). broken_rule j rule) one ∙ sym q.rule_placed)
