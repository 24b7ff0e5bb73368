-- Rows put into a slice one after the other, as much of them as there is room for.
use Rattle.std.specs.Prelude.{◌≡◌, cond, List, ◌∷◌, [], ℕ, ◌+◌, ◌-◌, ◌/◌, ◌%◌, min, max, ltb, length}
use Rattle.std.proofs.lemmas.List.Edits.{sets}
use Rattle.building.specs.declared.Counts.{Counts}

-- the header's words
abbrev pub counts_row : Counts → List ℕ
counts_row c = c.names ∷ c.types ∷ c.edges ∷ c.fields ∷ c.arguments ∷ c.members ∷ c.values ∷ []

-- the place behind n words from a place on, or the end of a slice that has no room for all of them
abbrev pub behind : (at n size : ℕ) → ℕ
behind at n size = max at (min (at + n) size)

-- a row was put in at a place, and the place behind it is the answer; what does not fit is left out, and all other words are as they were
pub record Added {A : Type 0} (at : ℕ) (row before after : List A) (place : ℕ) : Type 0 where
  pub words : after ≡ sets before at row
  pub next : place ≡ behind at (length row) (length before)

-- the letters that names are made of, and their bytes: A to Z, then a to z
abbrev pub letters : ℕ
letters = 52

abbrev pub letter : ℕ → ℕ
letter digit = cond (ltb digit 26) (65 + digit) (97 + (digit - 26))

-- the name of a number
abbrev pub two_letters : ℕ → List ℕ
two_letters number = letter (number / letters) ∷ letter (number % letters) ∷ []
