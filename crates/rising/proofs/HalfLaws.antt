-- A number among numbers that rise: the range in which it may stand, and how a look halves it.
use mathlib.Core.Path.{◌≡◌}
use mathlib.Core.Bool.{false}
use mathlib.Core.List.{List}
use mathlib.Core.Logic.{⊎_elim}
use Prim.Native.Nat.{ℕ, ◌+◌, ◌-◌, ◌/◌, ◌≤◌, ◌<◌}
use native.Mathlib.Nat.{div-lt_self, eq-or-lt_of_le}
use native.Mathlib.Omega.{arith}
use lib.ListN.{length, get_or}
use Rattle.names.proofs.BoolLaws.{below_or_from}
use Rattle.rows.specs.Search.{contains}
use Rattle.rising.specs.Rising.{Rises}
use Rattle.rising.proofs.ContainLaws.{contains_none}

-- what is before the range is below n, and what is behind it above
pub record Between (l : List ℕ) (n from to : ℕ) : Type 0 where
  pub rising : from ≤ to
  pub within : to ≤ length l
  pub below : (i : ℕ) → i < from → get_or l i 0 < n
  pub above : (i : ℕ) → to ≤ i → i < length l → n < get_or l i 0

pub between_all : (l : List ℕ) (n : ℕ) → Between l n 0 (length l)
between_all l n = record {
  rising = omega arith;
  within = omega arith;
  below = λ i h. absurd (omega arith);
  above = λ i h k. absurd (omega arith);
}

-- the middle of a range that is not empty lies in it
pub middle_of : (from to : ℕ) → from < to → (from ≤ from + (to - from) / 2) × (from + (to - from) / 2 < to)
middle_of from to h =
    let some : 0 < to - from = omega arith in
    let half : (to - from) / 2 < to - from = div-lt_self some (omega arith) in
    (omega arith, omega arith)

module _ {l : List ℕ} (r : Rises l) {n from to : ℕ} (b : Between l n from to) (m : ℕ) (after : from ≤ m) (before : m < to) where
  there : m < length l
  there = omega (arith, b.within)

  -- a number that is below settles all before it
  pub look_below : get_or l m 0 < n → Between l n (m + 1) to
  look_below h = record {
    rising = omega arith;
    within = b.within;
    below = λ i k.
        let q : i ≤ m = omega arith in
        ⊎_elim (λ e. rw e h) (λ d. omega (arith, r.rise i m d there)) (eq-or-lt_of_le q);
    above = b.above;
  }

  -- one that is above settles all behind it
  pub look_above : n < get_or l m 0 → Between l n from m
  look_above h = record {
    rising = after;
    within = omega (arith, there);
    below = b.below;
    above = λ i k q. ⊎_elim (λ e. rw (← e) h) (λ d. omega (arith, r.rise m i d q)) (eq-or-lt_of_le k);
  }

-- where nothing is left of the range it stands nowhere
pub between_none : (l : List ℕ) (n from to : ℕ) → Between l n from to → to ≤ from → contains l n ≡ false
between_none l n from to b h =
    contains_none l n
    (λ i k e. ⊎_elim (λ d. omega (arith, b.below i d)) (λ d. let q : to ≤ i = omega arith in omega (arith, b.above i q k)) (below_or_from i from))
