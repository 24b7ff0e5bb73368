-- Document 01, "Evidence": the answer is pass, or the first type row breaking a rule, with its lowest rule.
use Rattle.std.specs.Prelude.{◌≡◌, ◌≢◌, List, Bool, Option, Some, None, ℕ, suc, zero, ◌<◌}
use Rattle.table.specs.Layout.{none}
use Rattle.links.specs.Chains.{Graph}
use Rattle.links.specs.Fields.{is_input_object, chain_graph}
use Rattle.evidence.specs.declared.judged.Broken.{Broken}
use Rattle.evidence.specs.Rules.{lowest, Passes}

-- an answer: none is broken, or the first that is
abbrev pub Judged : Type 0
Judged = Option Broken

-- the numbers of an answer: the row, or NONE where it passes, and the rule, or 0 where it passes
abbrev pub row_of : Judged → ℕ
row_of None = none
row_of (Some broken) = broken.row.0

abbrev pub rule_of : Judged → ℕ
rule_of None = 0
rule_of (Some broken) = broken.rule

-- the answer for row t alone, whose lowest broken rule is k, or which breaks none where k is 0
abbrev pub judged_row : ℕ → ℕ → Judged
judged_row t zero = None
judged_row t (suc k) = Some (record { row = record { 0 = t }; rule = suc k })

-- the lowest rule that is broken, where one is
abbrev pub rule_broken : ℕ → Option ℕ
rule_broken zero = None
rule_broken (suc k) = Some (suc k)

-- the answer for some rows, where that is not to pass, and else for the row that follows them
abbrev pub or_next : Judged → Judged → Judged
or_next None v = v
or_next (Some broken) v = Some broken

module _ (g : Graph) (input : ℕ → Bool) (ev : List ℕ) where
  -- the answer for the rows below n
  unfoldable pub judged_to : ℕ → Judged
  judged_to zero = None
  judged_to (suc n) = or_next (judged_to n) (judged_row n (lowest g input ev n))

  -- pass, or the first type row breaking a rule, with its lowest rule
  unfoldable pub judged : Judged
  judged = judged_to g.types

  -- of the rows below n, t is the first that breaks a rule, and k is its lowest
  pub record FirstBroken (n t k : ℕ) : Type 0 where
    pub row : t < n
    pub rule : lowest g input ev t ≡ k
    pub breaks : k ≢ 0
    pub first : (s : ℕ) → s < t → lowest g input ev s ≡ 0

-- evidence for the table w keeps the seven rules in every row
abbrev pub KeepsRules : List ℕ → List ℕ → Type 0
KeepsRules w ev = Passes (chain_graph w) (is_input_object w) ev

-- the answer on evidence for the table w
abbrev pub judged_of : List ℕ → List ℕ → Judged
judged_of w ev = judged (chain_graph w) (is_input_object w) ev
