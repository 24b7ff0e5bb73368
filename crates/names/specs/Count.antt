-- Tests over a run of numbers, which antt computes; a test of every row of a section is one of these.
use Rattle.std.specs.Prelude.{Bool, true, ◌&&◌, ◌||◌, List, ℕ, suc, zero, ◌-◌, take, drop, ltb}

-- p holds of each number from `from` up to `to`, `to` not included
unfoldable pub every : (ℕ → Bool) → ℕ → ℕ → Bool
every p from zero = true
every p from (suc n) = every p from n && (ltb n from || p n)

-- the elements of a list from `from` up to `to`, `to` not included
abbrev pub part : {A : Type 0} → List A → ℕ → ℕ → List A
part l from to = take (to - from) (drop from l)
