-- Each test of a column says what its statement says, both ways.
use mathlib.Core.Path.{◌≡◌, sym}
use mathlib.Core.Bool.{Bool, true, not}
use mathlib.Core.List.{List}
use mathlib.Core.Logic.{⊎_elim}
use Prim.Native.Nat.{ℕ, zero, suc, ◌≤◌, ◌<◌, zero-le}
use native.Mathlib.Nat.{eq-or-lt_of_le, le_of_suc-le-suc, le_trans}
use native.Mathlib.Omega.{arith}
use lib.Dec.{leb, ltb, eqb}
use borrow.Author.Tests.{leb-true, eqb-true, eqb-false, ltb-true, ltb-false, not-true, le-leb, lt-ltb, eq-eqb, ne_eqb}
use Rattle.table.specs.declared.layout.Column.{Column}
use Rattle.names.specs.Count.{every}
use Rattle.names.specs.Wraps.{good_wrap}
use Rattle.table.specs.Layout.{word_at, start_at}
use Rattle.columns.specs.Columns.{below, AllBelow, wraps_good, ends_good, Runs, fresh, distinct, Apart}
use Rattle.names.proofs.BoolLaws.{decide, and_left, and_right, and_true}
use Rattle.names.proofs.CountLaws.{every_at, every_intro}

-- Ends that don't fall and whose last is the count cut a section into runs that lie in it.

module _ (w : List ℕ) (c : Column) (n : ℕ) where
  abbrev rises : ℕ → Bool
  rises i = leb (start_at w c i) (word_at w c i)

  module _ (e : ends_good w c n ≡ true) where
    -- a run doesn't end before it starts
    ends_rise : (i : ℕ) → i < c.rows → start_at w c i ≤ word_at w c i
    unfolding ends_good
    ends_rise i h =
        leb-true _ _ (every_at rises 0 c.rows i (and_left (every rises 0 c.rows) (eqb (start_at w c c.rows) n) e) zero-le h)

    -- the last end is the count
    ends_last : start_at w c c.rows ≡ n
    unfolding ends_good
    ends_last = eqb-true _ _ (and_right (every rises 0 c.rows) (eqb (start_at w c c.rows) n) e)

    starts_rise : (j i : ℕ) → j ≤ c.rows → i ≤ j → start_at w c i ≤ start_at w c j
    unfolding start_at
    starts_rise zero i h k = let z : i ≡ 0 = omega arith in rw z zero-le
    starts_rise (suc j) i h k =
        ⊎_elim (λ q. rw q (omega arith))
        (λ q. let m : j ≤ c.rows = omega arith in le_trans (starts_rise j i m (le_of_suc-le-suc q)) (ends_rise j h))
        (eq-or-lt_of_le k)

    -- an end lies in the section
    ends_inside : (i : ℕ) → i < c.rows → word_at w c i ≤ n
    unfolding start_at
    ends_inside i h = rw (sym ends_last) (starts_rise c.rows (suc i) (omega arith) h)

module _ (w : List ℕ) (c : Column) where
  pub below_at : (n : ℕ) → below w c n ≡ true → AllBelow w c n
  unfolding below
  below_at n e i h = ltb-true _ _ (every_at (λ j. ltb (word_at w c j) n) 0 c.rows i e zero-le h)

  pub wraps_at : wraps_good w c ≡ true → (i : ℕ) → i < c.rows → good_wrap (word_at w c i) ≡ true
  unfolding wraps_good
  wraps_at e i h = every_at (λ j. good_wrap (word_at w c j)) 0 c.rows i e zero-le h

  pub runs : (n : ℕ) → ends_good w c n ≡ true → Runs w c n
  runs n e = record { rise = ends_rise w c n e; inside = ends_inside w c n e; last = ends_last w c n e }

  clash : (from i j : ℕ) → fresh w c from i ≡ true → from ≤ j → j < i → word_at w c i ≡ word_at w c j → ⊥
  unfolding fresh
  clash from i j e h k q =
      eqb-false (word_at w c i) (word_at w c j)
      (not-true _ (every_at (λ m. not (eqb (word_at w c i) (word_at w c m))) from i j e h k)) q

  pub apart : (from to : ℕ) → distinct w c from to ≡ true → Apart w c from to
  unfolding distinct
  apart from to e i j hi ki hj kj q =
      ⊎_elim (λ a. absurd (clash from j i (every_at (fresh w c from) from to j e hj kj) hi (ltb-true i j a) (sym q)))
      (λ a. ⊎_elim (λ b. absurd (clash from i j (every_at (fresh w c from) from to i e hi ki) hj (ltb-true j i b) q)) (λ b. let m = ltb-false i j a in let n = ltb-false j i b in omega arith) (decide (ltb j i)))
      (decide (ltb i j))

  pub is_below : (n : ℕ) → AllBelow w c n → below w c n ≡ true
  unfolding below
  is_below n h = every_intro (λ i. ltb (word_at w c i) n) 0 c.rows (λ i a b. lt-ltb (word_at w c i) n (h i b))

  pub are_wraps : ((i : ℕ) → i < c.rows → good_wrap (word_at w c i) ≡ true) → wraps_good w c ≡ true
  unfolding wraps_good
  are_wraps h = every_intro (λ i. good_wrap (word_at w c i)) 0 c.rows (λ i a b. h i b)

  pub are_ends : (n : ℕ) → Runs w c n → ends_good w c n ≡ true
  unfolding ends_good
  are_ends n r =
      and_true (every_intro (λ i. leb (start_at w c i) (word_at w c i)) 0 c.rows (λ i a b. le-leb (start_at w c i) (word_at w c i) (r.rise i b)))
      (eq-eqb (start_at w c c.rows) n r.last)

  is_fresh : (from to i : ℕ) → Apart w c from to → from ≤ i → i < to → fresh w c from i ≡ true
  unfolding fresh
  is_fresh from to i h a b =
      every_intro (λ j. not (eqb (word_at w c i) (word_at w c j))) from i
      (λ j p q. simp (ne_eqb (word_at w c i) (word_at w c j) (λ (e : word_at w c i ≡ word_at w c j).
      let k : j < to = omega arith in
      let m : i ≡ j = h i j a b p k e in
      omega arith)))

  pub are_distinct : (from to : ℕ) → Apart w c from to → distinct w c from to ≡ true
  unfolding distinct
  are_distinct from to h = every_intro (fresh w c from) from to (λ i a b. is_fresh from to i h a b)
