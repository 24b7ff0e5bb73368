-- Laws of `every`, as a loop from the lowest number up meets them.
use mathlib.Core.Path.{◌≡◌, refl, sym, ◌∙◌}
use mathlib.Core.Bool.{Bool, true, false, ◌&&◌, ◌||◌}
use mathlib.Core.Logic.{⊎_elim}
use Prim.Native.Nat.{ℕ, zero, suc, ◌+◌, ◌≤◌, ◌<◌, zero-le}
use native.Mathlib.Nat.{le_of_suc-le-suc, eq-or-lt_of_le, add-zero}
use native.Mathlib.Numerals.{add-one}
use native.Mathlib.Omega.{arith}
use lib.Dec.{ltb}
use borrow.Author.Tests.{lt-ltb, le-ltb, ltb-false}
use Rattle.names.specs.Count.{every}
use Rattle.names.proofs.BoolLaws.{and_left, and_right, and_true, or_true, true_false, decide, below_or_from}

module _ (p : ℕ → Bool) (from : ℕ) where
  pub every_upto : (n : ℕ) → n ≤ from → every p from n ≡ true
  unfolding every
  every_upto zero h = refl
  every_upto (suc n) h =
      let e : n ≤ from = omega arith in
      rw (every_upto n e, lt-ltb n from h)

  -- where a loop starts
  pub every_none : every p from from ≡ true
  every_none = every_upto from (omega arith)

  every_suc : (n : ℕ) → from ≤ n → every p from n ≡ true → p n ≡ true → every p from (suc n) ≡ true
  unfolding every
  every_suc n h a b = rw (a, le-ltb n from h, b)

  -- a turn that passes
  pub every_more : (n : ℕ) → from ≤ n → every p from n ≡ true → p n ≡ true → every p from (n + 1) ≡ true
  every_more n h a b = rw add-one (every_suc n h a b)

  every_next_suc : (n : ℕ) → from ≤ n → every p from (suc n) ≡ every p from n && p n
  unfolding every
  every_next_suc n h = rw (le-ltb n from h) refl

  -- one number more
  pub every_next : (n : ℕ) → from ≤ n → every p from (n + 1) ≡ every p from n && p n
  every_next n h = rw add-one (every_next_suc n h)

  every_last : (n : ℕ) → every p from (suc n) ≡ true → from ≤ n → p n ≡ true
  unfolding every
  every_last n e h = rw (le-ltb n from h) at (and_right (every p from n) (ltb n from || p n) e)

  -- what holds of each
  pub every_at : (to i : ℕ) → every p from to ≡ true → from ≤ i → i < to → p i ≡ true
  unfolding every
  every_at zero i e h l = absurd (omega arith)
  every_at (suc n) i e h l =
      ⊎_elim (λ q. let k : from ≤ n = omega arith in rw q (every_last n e k))
      (λ k. every_at n i (and_left (every p from n) (ltb n from || p n) e) h k) (eq-or-lt_of_le (le_of_suc-le-suc l))

  -- a turn that fails
  pub every_fails : (to i : ℕ) → from ≤ i → i < to → p i ≡ false → every p from to ≡ false
  every_fails to i h l q = ⊎_elim (λ e. absurd (true_false (every_at to i e h l) q)) (λ e. e) (decide (every p from to))

  every_step : (n : ℕ) → (from ≤ n → p n ≡ true) → ltb n from || p n ≡ true
  every_step n h = ⊎_elim (λ e. rw e) (λ e. or_true (ltb n from) (p n) (h (ltb-false n from e))) (decide (ltb n from))

  pub every_intro : (to : ℕ) → ((i : ℕ) → from ≤ i → i < to → p i ≡ true) → every p from to ≡ true
  unfolding every
  every_intro zero h = refl
  every_intro (suc n) h =
      and_true (every_intro n (λ i a b. let k : i < suc n = omega arith in h i a k))
      (every_step n (λ a. let k : n < suc n = omega arith in h n a k))

-- the same test, `by` numbers further on
pub every_shift : (p q : ℕ → Bool) (by n : ℕ) → ((i : ℕ) → i < n → p i ≡ q (by + i)) → every p 0 n ≡ every q by (by + n)
every_shift p q by zero h = rw add-zero (every_none p 0 ∙ sym (every_none q by))
every_shift p q by (suc n) h =
    let e : by + suc n ≡ suc (by + n) = omega arith in
    let k : by ≤ by + n = omega arith in
    rw (e, every_next_suc p 0 n zero-le, every_next_suc q by (by + n) k, every_shift p q by n (λ i l. let m : i < suc n = omega arith in h i m), h n (omega arith)) refl

-- two runs, one behind the other
pub every_join : (p : ℕ → Bool) (from at to : ℕ) → every p from at ≡ true → every p at to ≡ true → every p from to ≡ true
every_join p from at to a b =
    every_intro p from to (λ i h l. ⊎_elim (λ k. every_at p from at i a h k) (λ k. every_at p at to i b k l) (below_or_from i at))
