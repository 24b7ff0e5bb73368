-- Document 01, "Records": record rows, and what writing a list of them to an output leaves there.
use Rattle.std.specs.Prelude.{◌≡◌, List, ◌∷◌, [], ◌++◌, Bool, true, false, ℕ, suc, zero, ◌*◌, ◌^◌, ◌≤◌, length, drop}
use Rattle.records.specs.declared.Record.{Record}

-- the words of a record row
abbrev pub row_words : ℕ
row_words = 5

-- far more records than any table has: the words of so many are counted without wrapping
abbrev pub countable : ℕ
countable = 2 ^ 59

-- the words of a record
abbrev pub words_of : Record → List ℕ
words_of r = r.code.0 ∷ r.ty.0 ∷ r.a.0 ∷ r.b.0 ∷ r.c.0 ∷ []

-- the words of a list of records, one row after the other
unfoldable pub flat : List Record → List ℕ
flat [] = []
flat (r ∷ rs) = words_of r ++ flat rs

-- f 0, f 1, .. f (n - 1), one list after the other
unfoldable pub each : {A : Type 0} → (ℕ → List A) → ℕ → List A
each f zero = []
each f (suc n) = each f n ++ f n

-- the list, where the test holds
abbrev pub when : Bool → List Record → List Record
when true rs = rs
when false rs = []

-- an output before and after the records rs were written to its front, n of them: where there is room, their rows and then what
-- was there
pub record Emitted (rs : List Record) (before after : List ℕ) (n : ℕ) : Type 0 where
  pub count : n ≡ length rs
  pub room : row_words * n ≤ length before → after ≡ flat rs ++ drop (row_words * n) before
  pub same : length after ≡ length before
