-- Tables that are changed in place: a word set, and room for a row opened and closed.
use Rattle.std.specs.Prelude.{◌≡◌, refl, List, ◌∷◌, [], ℕ, zero, suc, ◌+◌, ◌*◌, ◌≤◌, ◌<◌, length, get_or, set}
use Rattle.std.proofs.Common.{arith}
use Rattle.table.specs.declared.layout.Column.{Column}

-- the words with another word in row i of a column
unfoldable pub with_word : List ℕ → Column → ℕ → ℕ → List ℕ
with_word w c i word = set w (c.base + c.width * i) word

-- room for k words at a place: the words from there on stand k further, and the last k are gone. The words before the place, and those that stood in the
-- room, are as they were
pub record Opened (at k : ℕ) (before after : List ℕ) : Type 0 where
  pub front : (i : ℕ) → i < at + k → get_or after i 0 ≡ get_or before i 0
  pub moved : (i : ℕ) → at ≤ i → i + k < length before → get_or after (i + k) 0 ≡ get_or before i 0
  pub same_length : length after ≡ length before

-- the room of k words at a place is gone: the words behind it stand k lower, and the last k are as they were, and so are the words before the place
pub record Closed (at k : ℕ) (before after : List ℕ) : Type 0 where
  pub front : (i : ℕ) → i < at → get_or after i 0 ≡ get_or before i 0
  pub moved : (i : ℕ) → at ≤ i → i + k < length before → get_or after i 0 ≡ get_or before (i + k) 0
  pub behind : (i : ℕ) → at ≤ i → length before ≤ i + k → get_or after i 0 ≡ get_or before i 0
  pub same_length : length after ≡ length before

-- five words, with room for two opened behind the first, and with the two behind the first taken out
abbrev five : List ℕ
five = 5 ∷ 6 ∷ 7 ∷ 8 ∷ 9 ∷ []

abbrev spread : List ℕ
spread = 5 ∷ 6 ∷ 7 ∷ 6 ∷ 7 ∷ []

abbrev shut : List ℕ
shut = 5 ∷ 8 ∷ 9 ∷ 8 ∷ 9 ∷ []

opened_front : (i : ℕ) → i < 3 → get_or spread i 0 ≡ get_or five i 0
opened_front zero h = refl
opened_front (suc zero) h = refl
opened_front (suc (suc zero)) h = refl
opened_front (suc (suc (suc i))) h = absurd (omega arith)

opened_moved : (i : ℕ) → 1 ≤ i → i + 2 < 5 → get_or spread (i + 2) 0 ≡ get_or five i 0
opened_moved zero h k = absurd (omega arith)
opened_moved (suc zero) h k = refl
opened_moved (suc (suc zero)) h k = refl
opened_moved (suc (suc (suc i))) h k = absurd (omega arith)

-- both have five words
same_five : length spread ≡ length five
same_five = refl

opened_two : Opened 1 2 five spread
opened_two = record { front = opened_front; moved = opened_moved; same_length = same_five }

closed_front : (i : ℕ) → i < 1 → get_or shut i 0 ≡ get_or five i 0
closed_front zero h = refl
closed_front (suc i) h = absurd (omega arith)

closed_moved : (i : ℕ) → 1 ≤ i → i + 2 < 5 → get_or shut i 0 ≡ get_or five (i + 2) 0
closed_moved zero h k = absurd (omega arith)
closed_moved (suc zero) h k = refl
closed_moved (suc (suc zero)) h k = refl
closed_moved (suc (suc (suc i))) h k = absurd (omega arith)

closed_behind : (i : ℕ) → 1 ≤ i → 5 ≤ i + 2 → get_or shut i 0 ≡ get_or five i 0
closed_behind zero h k = absurd (omega arith)
closed_behind (suc zero) h k = absurd (omega arith)
closed_behind (suc (suc zero)) h k = absurd (omega arith)
closed_behind (suc (suc (suc zero))) h k = refl
closed_behind (suc (suc (suc (suc zero)))) h k = refl
closed_behind (suc (suc (suc (suc (suc i))))) h k = refl

same_shut : length shut ≡ length five
same_shut = refl

closed_two : Closed 1 2 five shut
closed_two = record { front = closed_front; moved = closed_moved; behind = closed_behind; same_length = same_shut }

-- the word of row 1 in a column that starts at word 1, one word a row
set_one : with_word five (record { base = 1; width = 1; rows = 3 }) 1 4 ≡ 5 ∷ 6 ∷ 4 ∷ 8 ∷ 9 ∷ []
unfolding with_word
set_one = refl
