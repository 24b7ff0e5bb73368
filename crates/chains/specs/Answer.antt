-- What a search for the first cycle asks of a graph and of the work words, and what it answers.
use Rattle.std.specs.Prelude.{◌≡◌, refl, ◌⊎◌, ◌≢◌, List, [], ◌++◌, ℕ, zero, suc, ◌≤◌, ◌<◌, length, take, drop}
use Rattle.table.specs.Layout.{most_types, most_fields}
use Rattle.links.specs.Chains.{Graph, Chain}
use Rattle.chains.specs.Cycles.{FirstCycle, NoCycle}
use Rattle.chains.specs.Work.{trail_at, mark_of, free_mark, entered_mark, settled_mark}

-- the graph is within the limits, and the fields of each type are among the rows, so many as there are
pub record Shaped (g : Graph) (rows : ℕ) : Type 0 where
  pub types : g.types ≤ most_types
  pub fields : rows ≤ most_fields
  pub within : (s : ℕ) → s < g.types → g.stop s ≤ rows

-- Each type has one of the three marks. No closed chain runs through a settled type, and it leads to settled types only.
pub record Marking (g : Graph) (W : List ℕ) : Type 0 where
  pub room : trail_at g.types ≤ length W
  pub most : (v : ℕ) → v < g.types → mark_of W v ≤ settled_mark
  pub closed : (v f u : ℕ) → v < g.types → mark_of W v ≡ settled_mark → Chain g v f u → mark_of W u ≡ settled_mark
  pub none : (v : ℕ) → v < g.types → mark_of W v ≡ settled_mark → NoCycle g v

-- between searches no type is entered
pub record Settled (g : Graph) (W : List ℕ) : Type 0 where
  pub marking : Marking g W
  pub calm : (v : ℕ) → v < g.types → mark_of W v ≢ entered_mark

-- a mark, when those of a search are taken away
abbrev pub unentered : ℕ → ℕ
unentered zero = zero
unentered (suc zero) = zero
unentered (suc (suc m)) = suc (suc m)

three_marks : (unentered free_mark ≡ free_mark) × (unentered entered_mark ≡ free_mark) × (unentered settled_mark ≡ settled_mark)
three_marks = (refl, refl, refl)

-- the marks of a search were taken away from the first n words
pub record Forgotten (n : ℕ) (before after : List ℕ) : Type 0 where
  pub marks : (v : ℕ) → v < n → mark_of after v ≡ unentered (mark_of before v)
  pub size : length after ≡ length before
  pub rest : drop n after ≡ drop n before

-- fs are the rows of t's first cycle; no rows, where no chain at all leads from t back to t
abbrev pub CycleRows : (g : Graph) (t : ℕ) (fs : List ℕ) → Type 0
CycleRows g t fs = FirstCycle g t fs ⊎ (NoCycle g t × (fs ≡ []))

-- n is the count of t: the fields of its first cycle, or 0 with no closed chain
pub record CycleCount (g : Graph) (t n : ℕ) : Type 0 where
  pub fields : List ℕ
  pub right : CycleRows g t fields
  pub count : n ≡ length fields

-- what a search of t answers: the count n, and the rows in order at the front of the output, as many as there is room for
pub record CycleAnswered (g : Graph) (t : ℕ) (before after : List ℕ) (n : ℕ) : Type 0 where
  pub fields : List ℕ
  pub right : CycleRows g t fields
  pub count : n ≡ length fields
  pub written : after ≡ take (length before) fields ++ drop (length fields) before
