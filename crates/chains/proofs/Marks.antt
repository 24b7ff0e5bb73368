-- The marks: what a new mark changes, and how many types are left to enter.
use mathlib.Core.Path.{◌≡◌, refl, sym, ◌∙◌}
use mathlib.Core.Logic.{◌⊎◌, inl, inr, ⊎_elim, ◌≢◌}
use mathlib.Core.List.{List}
use Prim.Native.Nat.{ℕ, suc, zero, ◌≤◌, ◌<◌}
use native.Mathlib.Omega.{arith}
use native.Mathlib.Decide.{ℕ_discrete}
use lib.ListN.{length, get_or, set, length-set}
use lib.Seq.{get_or-set_same, get_or-set_other, drop-set-lt}
use Rattle.links.specs.Chains.{Graph}
use Rattle.chains.specs.Search.{free, unit, OnlyMarks, Fail, Fail.done, Fail.skip, Fail.enter}

-- numbers are the same, or not
pub same_or_not : (a b : ℕ) → (a ≡ b) ⊎ (a ≢ b)
same_or_not a b = elim (ℕ_discrete a b) [ yes e ↦ inl e | no n ↦ inr n ]

-- a number from f on is f, or comes later
pub at_or_after : (f g : ℕ) → f ≤ g → (g ≡ f) ⊎ (f < g)
at_or_after f g h = ⊎_elim (λ e. inl e) (λ n. inr (omega arith)) (same_or_not g f)

abbrev pub HasMark : List ℕ → ℕ → Type 0
HasMark W v = get_or W v 0 ≡ 0 → ⊥

module _ (W : List ℕ) (u : ℕ) (room : u < length W) where
  pub mark_same : HasMark (set W u 1) u
  mark_same e = omega (arith, get_or-set_same W u 1 0 room)

  pub mark_grows : (v : ℕ) → HasMark W v → HasMark (set W u 1) v
  mark_grows v m = ⊎_elim (λ (e : v ≡ u). rw e mark_same) (λ n. rw (get_or-set_other W u v 1 0 n) m) (same_or_not v u)

  pub mark_new : (v : ℕ) → HasMark (set W u 1) v → (v ≡ u) ⊎ HasMark W v
  mark_new v m = ⊎_elim (λ e. inl e) (λ n. inr (rw (get_or-set_other W u v 1 0 n) at m)) (same_or_not v u)

  pub unmarked_old : (v : ℕ) → get_or (set W u 1) v 0 ≡ 0 → get_or W v 0 ≡ 0
  unmarked_old v e = ⊎_elim (λ (d : v ≡ u). absurd (mark_same (rw d at e))) (λ n. rw (get_or-set_other W u v 1 0 n) at e) (same_or_not v u)

unit_le : (a b : ℕ) → (b ≡ 0 → a ≡ 0) → unit b ≤ unit a
unit_le zero zero h = omega arith
unit_le zero (suc b) h = omega arith
unit_le (suc a) zero h = absurd (omega (arith, h refl))
unit_le (suc a) (suc b) h = omega arith

pub free_le : (k : ℕ) (W X : List ℕ) → ((v : ℕ) → get_or X v 0 ≡ 0 → get_or W v 0 ≡ 0) → free k X ≤ free k W
unfolding free
free_le zero W X h = omega arith
free_le (suc k) W X h = omega (arith, free_le k W X h, unit_le (get_or W k 0) (get_or X k 0) (h k))

-- a type that is entered is one less to enter
pub free_falls : (k : ℕ) (W : List ℕ) (u : ℕ) → u < k → u < length W → get_or W u 0 ≡ 0 → free k (set W u 1) < free k W
unfolding free
free_falls zero W u h room e = absurd (omega arith)
free_falls (suc k) W u h room e =
    ⊎_elim
    (λ (d : u ≡ k).
    let a : get_or (set W u 1) k 0 ≡ 1 = rw (← d) (get_or-set_same W u 1 0 room) in
    let b : get_or W k 0 ≡ 0 = rw d at e in
    rw (a, b) (omega (arith, free_le k W (set W u 1) (unmarked_old W u room))))
    (λ (n : u ≢ k).
    let a : get_or (set W u 1) k 0 ≡ get_or W k 0 = get_or-set_other W u k 1 0 (λ q. n (sym q)) in
    let lt : u < k = omega arith in
    rw a (omega (arith, free_falls k W u lt room e)))
    (same_or_not u k)

unit_most : (a : ℕ) → unit a ≤ 1
unit_most zero = omega arith
unit_most (suc a) = omega arith

pub free_most : (k : ℕ) (W : List ℕ) → free k W ≤ k
unfolding free
free_most zero W = omega arith
free_most (suc k) W = omega (arith, free_most k W, unit_most (get_or W k 0))

-- a walk changes marks only
module _ (k : ℕ) where
  pub only_none : (W : List ℕ) → OnlyMarks k W W
  only_none W = record { marks = λ v l. inl refl; size = refl; rest = refl }

  pub only_enter : (W : List ℕ) (u : ℕ) → u < k → u < length W → get_or W u 0 ≡ 0 → OnlyMarks k W (set W u 1)
  only_enter W u low room e =
      record {
        marks = λ v l. ⊎_elim (λ (d : v ≡ u). inr (rw d (e, get_or-set_same W u 1 0 room))) (λ n. inl (get_or-set_other W u v 1 0 n)) (same_or_not v u);
        size = length-set W u 1;
        rest = drop-set-lt k W u 1 low;
      }

  join_mark : (a b c : ℕ) → (b ≡ a) ⊎ ((a ≡ 0) × (b ≡ 1)) → (c ≡ b) ⊎ ((b ≡ 0) × (c ≡ 1)) → (c ≡ a) ⊎ ((a ≡ 0) × (c ≡ 1))
  join_mark a b c (inl e) (inl d) = inl (d ∙ e)
  join_mark a b c (inl e) (inr d) = inr (omega (arith, d.0), d.1)
  join_mark a b c (inr e) (inl d) = inr (e.0, d ∙ e.1)
  join_mark a b c (inr e) (inr d) = absurd (omega (arith, e.1, d.0))

  pub only_join : {W X Y : List ℕ} → OnlyMarks k W X → OnlyMarks k X Y → OnlyMarks k W Y
  only_join {W} {X} {Y} a b =
      record {
        marks = λ v l. join_mark (get_or W v 0) (get_or X v 0) (get_or Y v 0) (a.marks v l) (b.marks v l);
        size = b.size ∙ a.size;
        rest = b.rest ∙ a.rest;
      }

pub fail_only : (g : Graph) (t : ℕ) {s f : ℕ} {W X : List ℕ} → Fail g t s f W X → OnlyMarks g.types W X
fail_only g t {W} (done h) = only_none g.types W
fail_only g t (skip h k r) = fail_only g t r
fail_only g t (enter {f} {W} h o q r) =
    only_join g.types (only_enter g.types W (g.next f) o.type o.room o.fresh) (only_join g.types (fail_only g t q) (fail_only g t r))
