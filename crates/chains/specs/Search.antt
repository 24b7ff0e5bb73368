-- The search with marks, step by step: what the walk of the fields of one type does, as two relations. The contracts of the
-- functions that search cite them. The contract of `first_cycle` does not: proofs/Correct shows what a search finds.
-- W is the work words: type v is marked, or entered, where its mark is not free. t is the target.
use Rattle.std.specs.Prelude.{◌≡◌, refl, List, ◌∷◌, [], ℕ, suc, zero, ◌+◌, ◌≤◌, ◌<◌, ◌⊎◌, length, set, drop}
use Rattle.links.specs.Chains.{Graph}
use Rattle.chains.specs.Work.{trail_at, mark_of, free_mark, entered_mark}
use Rattle.chains.specs.Answer.{Shaped}

-- 1 for a free mark, and else 0
abbrev pub unit : ℕ → ℕ
unit zero = 1
unit (suc n) = 0

-- how many of the first k types are not entered
unfoldable pub free : ℕ → List ℕ → ℕ
free zero W = 0
free (suc k) W = free k W + unit (mark_of W k)

module _ (g : Graph) (t : ℕ) where
  -- field f is no way on: no chain field, or one to a type that is marked and not the target
  abbrev pub Skipped : List ℕ → ℕ → Type 0
  Skipped W f = g.next f < g.types → (g.next f ≡ t → ⊥) × (mark_of W (g.next f) ≡ free_mark → ⊥)

  -- field f leads to a type that is not marked, and not the target
  pub record Opens (W : List ℕ) (f : ℕ) : Type 0 where
    pub type : g.next f < g.types
    pub room : g.next f < length W
    pub other : g.next f ≡ t → ⊥
    pub fresh : mark_of W (g.next f) ≡ free_mark

  -- Fail s f W X: the fields of s from f on, walked at the marks W, lead to no success and leave the marks X
  pub data Fail : ℕ → ℕ → List ℕ → List ℕ → Type 0 where
    done : {s f : ℕ} {W : List ℕ} → g.stop s ≤ f → Fail s f W W
    skip : {s f : ℕ} {W X : List ℕ} → f < g.stop s → Skipped W f → Fail s (suc f) W X → Fail s f W X
    enter : {s f : ℕ} {W Y X : List ℕ} → f < g.stop s → Opens W f
        → Fail (g.next f) (g.start (g.next f)) (set W (g.next f) entered_mark) Y
        → Fail s (suc f) Y X → Fail s f W X

  -- Find s f W fs: the fields of s from f on, walked at the marks W, lead to the target through the fields fs
  pub data Find : ℕ → ℕ → List ℕ → List ℕ → Type 0 where
    here : {s f : ℕ} {W : List ℕ} → f < g.stop s → g.next f < g.types → g.next f ≡ t → Find s f W (f ∷ [])
    below : {s f : ℕ} {W fs : List ℕ} → f < g.stop s → Opens W f
        → Find (g.next f) (g.start (g.next f)) (set W (g.next f) entered_mark) fs
        → Find s f W (f ∷ fs)
    past : {s f : ℕ} {W fs : List ℕ} → f < g.stop s → Skipped W f → Find s (suc f) W fs → Find s f W fs
    later : {s f : ℕ} {W Y fs : List ℕ} → f < g.stop s → Opens W f
        → Fail (g.next f) (g.start (g.next f)) (set W (g.next f) entered_mark) Y
        → Find s (suc f) Y fs → Find s f W fs

-- a walk of type s may begin: there is room for a field of each type that is left to enter
pub record MayWalk (g : Graph) (rows s depth : ℕ) (W : List ℕ) : Type 0 where
  pub shaped : Shaped g rows
  pub type : s < g.types
  pub room : trail_at g.types ≤ length W
  pub left : depth + 1 + free g.types W ≤ g.types

-- the walk enters types, and changes nothing else: a mark that stood stays
pub record OnlyMarks (types : ℕ) (W X : List ℕ) : Type 0 where
  pub marks : (v : ℕ) → v < types → (mark_of X v ≡ mark_of W v) ⊎ ((mark_of W v ≡ free_mark) × (mark_of X v ≡ entered_mark))
  pub size : length X ≡ length W
  pub rest : drop types X ≡ drop types W

-- the rows fs stored in the words from i on, as many as there is room for
abbrev pub stored : ℕ → List ℕ → List ℕ → List ℕ
stored i [] O = O
stored i (f ∷ fs) O = set (stored (suc i) fs O) i f

-- rows 7 and 8 stored from word 1 on, with room and without
store_two : (stored 1 (7 ∷ 8 ∷ []) (0 ∷ 0 ∷ 0 ∷ []) ≡ 0 ∷ 7 ∷ 8 ∷ []) × (stored 1 (7 ∷ 8 ∷ []) (0 ∷ 0 ∷ []) ≡ 0 ∷ 7 ∷ [])
store_two = (refl, refl)

-- the walk of the fields of s from f on found nothing: it returns 0, leaves the marks of a search that fails, and stores nothing
pub record Missed (g : Graph) (t s f : ℕ) (W X O P : List ℕ) (n : ℕ) : Type 0 where
  pub nothing : n ≡ 0
  pub fail : Fail g t s f W X
  pub output : P ≡ O

-- the walk arrived at the target, through the fields `fields`: it returns how many fields lead to the target by s, and the rows of those are stored behind the `depth`
-- that led to s
pub record Arrived (g : Graph) (t s f depth : ℕ) (W X O P : List ℕ) (n : ℕ) : Type 0 where
  pub fields : List ℕ
  pub find : Find g t s f W fields
  pub count : n ≡ depth + length fields
  pub most : n ≤ g.types
  pub only : OnlyMarks g.types W X
  pub output : P ≡ stored depth fields O

-- what the walk of the fields of s from f on leaves in the work words W and the output O, and returns
abbrev pub Walked : (g : Graph) (t s f depth : ℕ) (W X O P : List ℕ) (n : ℕ) → Type 0
Walked g t s f depth W X O P n = Missed g t s f W X O P n ⊎ Arrived g t s f depth W X O P n
