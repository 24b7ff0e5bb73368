-- The work table: a few words for each type, in parts one behind the other. Here alone stands where each part begins.
use Rattle.std.specs.Prelude.{◌≡◌, refl, List, ◌∷◌, [], ℕ, ◌*◌, get_or, drop}

-- the words for each type
abbrev pub work_words : ℕ
work_words = 3

-- where the counts of first cycles begin, of so many types; the marks come before them, from word 0 on
abbrev pub counts_at : ℕ → ℕ
counts_at types = types

-- where the trail of a walk begins, which says from where each type was entered
abbrev pub trail_at : ℕ → ℕ
trail_at types = 2 * types

-- the mark of type t
abbrev pub mark_of : List ℕ → ℕ → ℕ
mark_of W t = get_or W t 0

-- the marks: of a type that no search has entered, of one that a search has, and of one that is settled
abbrev pub free_mark : ℕ
free_mark = 0

abbrev pub entered_mark : ℕ
entered_mark = 1

abbrev pub settled_mark : ℕ
settled_mark = 2

-- the work table of two types: type 1 is settled, the first cycle of type 0 has 5 fields, and type 0 was entered from type 1
two_types_example : List ℕ
two_types_example = free_mark ∷ settled_mark ∷ 5 ∷ 0 ∷ 1 ∷ 0 ∷ []

parts : (mark_of two_types_example 1 ≡ settled_mark) × (get_or two_types_example (counts_at 2) 0 ≡ 5) × (drop (trail_at 2) two_types_example ≡ 1 ∷ 0 ∷ [])
unfolding two_types_example
parts = (refl, refl, refl)
