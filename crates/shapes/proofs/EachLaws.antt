-- Rows that a loop puts in one by one.
use mathlib.Core.List.{List}
use Prim.Native.Nat.{ℕ, ◌+◌}
use Rattle.records.specs.Records.{each}
use Rattle.records.proofs.Records.{each_zero, each_more}
use Rattle.building.specs.Building.{Added}
use Rattle.building.proofs.BuildingLaws.{added_none, added_seq}

-- at its start none is in
pub none_added : {A : Type 0} (f : ℕ → List A) (at : ℕ) (w : List A) → Added at (each f 0) w w at
none_added f at w = rw each_zero (added_none at w)

-- and a turn puts in the next
pub next_added : {A : Type 0} (f : ℕ → List A) {n at p q : ℕ} {w w₁ w₂ : List A} → Added at (each f n) w w₁ p → Added p (f n) w₁ w₂ q → Added at (each f (n + 1)) w w₂ q
next_added f a b = rw each_more (added_seq a b)
