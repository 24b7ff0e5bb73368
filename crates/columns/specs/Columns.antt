-- Tests of a whole column, or of a run of its rows, of the words w.
use Rattle.std.specs.Prelude.{◌≡◌, Bool, ◌&&◌, not, List, ℕ, ◌≤◌, ◌<◌, leb, ltb, eqb}
use Rattle.table.specs.declared.layout.Column.{Column}
use Rattle.names.specs.Count.{every}
use Rattle.names.specs.Wraps.{good_wrap}
use Rattle.table.specs.Layout.{word_at, start_at}

-- every word of a column is below the limit
unfoldable pub below : List ℕ → Column → ℕ → Bool
below w c limit = every (λ i. ltb (word_at w c i) limit) 0 c.rows

-- the same as a statement
abbrev pub AllBelow : List ℕ → Column → ℕ → Type 0
AllBelow w c limit = (i : ℕ) → i < c.rows → word_at w c i < limit

-- every word of a column is a good wrap
unfoldable pub wraps_good : List ℕ → Column → Bool
wraps_good w c = every (λ i. good_wrap (word_at w c i)) 0 c.rows

-- ends don't fall, and the last is the count of the section that they cut; with no rows, the count is 0. So none lies beyond it
unfoldable pub ends_good : List ℕ → Column → ℕ → Bool
ends_good w c count = every (λ i. leb (start_at w c i) (word_at w c i)) 0 c.rows && eqb (start_at w c c.rows) count

-- so ends cut a section of n rows: each run lies in it, and the last ends where it does
pub record Runs (w : List ℕ) (c : Column) (n : ℕ) : Type 0 where
  pub rise : (i : ℕ) → i < c.rows → start_at w c i ≤ word_at w c i
  pub inside : (i : ℕ) → i < c.rows → word_at w c i ≤ n
  pub last : start_at w c c.rows ≡ n

-- the word of row i of a column stands in no row from `from` up to i
unfoldable pub fresh : List ℕ → Column → ℕ → ℕ → Bool
fresh w c from i = every (λ j. not (eqb (word_at w c i) (word_at w c j))) from i

-- no word stands twice in the rows of a column from `from` up to `to`
unfoldable pub distinct : List ℕ → Column → ℕ → ℕ → Bool
distinct w c from to = every (fresh w c from) from to

-- the same as a statement
abbrev pub Apart : List ℕ → Column → ℕ → ℕ → Type 0
Apart w c from to = (i j : ℕ) → from ≤ i → i < to → from ≤ j → j < to → word_at w c i ≡ word_at w c j → i ≡ j
