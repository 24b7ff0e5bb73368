-- Document 01, "Chains of input objects": types that chain fields reach, and closed chains.
use Rattle.std.specs.Prelude.{List, ℕ}
use Rattle.links.specs.Chains.{Graph}
use Rattle.chains.specs.Cycles.{PathTo}
use Rattle.links.specs.Fields.{ChainField}

module _ (g : Graph) where
  -- one or more chain fields lead from t to u
  abbrev pub Reaches : ℕ → ℕ → Type 0
  Reaches t u = (fs : List ℕ) × (vs : List ℕ) × PathTo g u t fs vs

  -- a closed chain is one or more chain fields, each starting where the last ended, returning to the type
  abbrev pub OnClosedChain : ℕ → Type 0
  OnClosedChain t = Reaches t t

-- the same, said of a table by its chain fields alone: one or more lead to u from t, each starting where the last ended
pub data FieldsTo (w : List ℕ) (u : ℕ) : ℕ → Type 0 where
  last : {t f : ℕ} → ChainField w t f u → FieldsTo w u t
  step : {t f v : ℕ} → ChainField w t f v → FieldsTo w u v → FieldsTo w u t
