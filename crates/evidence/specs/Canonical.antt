-- The evidence that our producer writes. Every word is determined by what it means, and there is no search in the definitions.
use Rattle.std.specs.Prelude.{◌≡◌, ◌≢◌, true, List, ℕ, suc, ◌*◌, ◌≤◌, ◌<◌, length}
use Rattle.links.specs.Chains.{Graph, Chain}
use Rattle.table.specs.Layout.{none}
use Rattle.evidence.specs.Words.{evidence_words, number, leader, out_field, out_distance, in_field, in_depth}
use Rattle.evidence.specs.Rules.{any, goes_out, comes_in}
use Rattle.evidence.specs.Reaches.{Reaches, OnClosedChain}

-- of the numbers below k, n have P
pub data Count (P : ℕ → Type 0) : ℕ → ℕ → Type 0 where
  empty : Count P 0 0
  with : {k n : ℕ} → P k → Count P k n → Count P (suc k) (suc n)
  without : {k n : ℕ} → (P k → ⊥) → Count P k n → Count P (suc k) n

-- n is the least number that has P
pub record Least (P : ℕ → Type 0) (n : ℕ) : Type 0 where
  pub holds : P n
  pub least : (m : ℕ) → P m → n ≤ m

module _ (g : Graph) where
  -- n chain fields, each starting where the last ended, lead to u from t; they may be none, and t is then u
  pub data Way (u : ℕ) : ℕ → ℕ → Type 0 where
    here : Way u 0 u
    more : {t f v n : ℕ} → Chain g t f v → Way u n v → Way u (suc n) t

  -- u is another type that chain fields reach from t
  abbrev pub Other : ℕ → ℕ → Type 0
  Other t u = (u ≢ t) × Reaches g t u

  -- t and u reach each other
  abbrev pub Mutual : ℕ → ℕ → Type 0
  Mutual t u = Reaches g t u × Reaches g u t

  module _ (ev : List ℕ) (t : ℕ) where
    -- a type on a closed chain: the lowest row among those that reach each other; the shortest distance to it and depth from it;
    -- the lowest field with which rule 5 holds, and rule 6
    pub record On : Type 0 where
      pub closed : OnClosedChain g t
      pub leader_word : Least (Mutual t) (leader ev t)
      pub distance_word : Least (λ n. Way (leader ev t) n t) (out_distance ev t)
      pub depth_word : Least (λ n. Way t n (leader ev t)) (in_depth ev t)
      pub out_word : Least (λ f. goes_out g ev t f ≡ true) (out_field ev t)
      pub in_none : leader ev t ≡ t → in_field ev t ≡ none
      pub in_word : leader ev t ≢ t → Least (λ f. any (comes_in g ev t f) g.types ≡ true) (in_field ev t)

    -- a type on no closed chain gets NONE in the last five words
    pub record Off : Type 0 where
      pub not_closed : OnClosedChain g t → ⊥
      pub leader_none : leader ev t ≡ none
      pub out_none : out_field ev t ≡ none
      pub distance_none : out_distance ev t ≡ none
      pub in_none : in_field ev t ≡ none
      pub depth_none : in_depth ev t ≡ none

    -- one of the two
    pub data Marks : Type 0 where
      on : On → Marks
      off : Off → Marks

    -- the row of a type; number: how many other types chain fields reach
    pub record Row : Type 0 where
      pub number_word : Count (Other t) g.types (number ev t)
      pub marks : Marks

  -- the evidence that our producer writes
  pub record Canonical (ev : List ℕ) : Type 0 where
    pub size : length ev ≡ evidence_words * g.types
    pub row : (t : ℕ) → t < g.types → Row ev t
