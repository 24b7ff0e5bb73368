-- Chains of fields, cycles and the first cycle of a type. Only definitions, and no search in them.
use mathlib.Core.List.{List, ◌∷◌, [], Memᴰ}
use Rattle.std.specs.Prelude.{ℕ, ◌<◌}
use Rattle.links.specs.Chains.{Graph, Chain}

-- no two elements are equal
pub data Distinct : List ℕ → Type 0 where
  none : Distinct []
  more : {v : ℕ} {vs : List ℕ} → (Memᴰ v vs → ⊥) → Distinct vs → Distinct (v ∷ vs)

-- the order of a dictionary
pub data LexLe : List ℕ → List ℕ → Type 0 where
  nil : {gs : List ℕ} → LexLe [] gs
  less : {f g : ℕ} {fs gs : List ℕ} → f < g → LexLe (f ∷ fs) (g ∷ gs)
  same : {f : ℕ} {fs gs : List ℕ} → LexLe fs gs → LexLe (f ∷ fs) (f ∷ gs)

module _ (g : Graph) where
  -- a chain to u from t: through the fields fs, one at least, whose types are vs
  pub data PathTo (u : ℕ) : ℕ → List ℕ → List ℕ → Type 0 where
    last : {t f : ℕ} → Chain g t f u → PathTo u t (f ∷ []) (t ∷ [])
    step : {t f v : ℕ} {fs vs : List ℕ} → Chain g t f v → PathTo u v fs vs → PathTo u t (f ∷ fs) (t ∷ vs)

  -- fs is a cycle of t: a chain from t back to t that visits no type twice before it returns
  pub record Cycle (t : ℕ) (fs : List ℕ) : Type 0 where
    pub types : List ℕ
    pub path : PathTo t t fs types
    pub simple : Distinct types

  -- fs is the first cycle of t, by the order of the field rows
  pub record FirstCycle (t : ℕ) (fs : List ℕ) : Type 0 where
    pub cycle : Cycle t fs
    pub least : (gs : List ℕ) → Cycle t gs → LexLe fs gs

  -- no chain at all leads from t back to t
  abbrev pub NoCycle : ℕ → Type 0
  NoCycle t = (fs vs : List ℕ) → PathTo t t fs vs → ⊥
