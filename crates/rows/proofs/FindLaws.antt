-- Laws of `find`, as a loop from the lowest number up meets them; `n` is the number behind the run.
use mathlib.Core.Path.{◌≡◌, refl, sym, ap, subst, ◌∙◌}
use mathlib.Core.Bool.{Bool, true, false}
use mathlib.Core.Logic.{⊎_elim}
use Prim.Native.Nat.{ℕ, zero, suc, ◌+◌, ◌-◌, ◌≤◌, ◌<◌}
use native.Mathlib.Numerals.{add-one}
use native.Mathlib.Omega.{arith}
use lib.Dec.{eqb}
use borrow.Author.Tests.{eqb-true, eqb-false}
use Rattle.names.proofs.BoolLaws.{decide}
use Rattle.std.specs.Prelude.{Option, Some, None, MatchOption, unwrap_or}
use Rattle.rows.specs.Search.{find}
use Rattle.rows.specs.Found.{found_row}
use Rattle.rows.proofs.FoundRows.{found_row_lem, found_no_row}

module _ (p : ℕ → Bool) where
  here : (i left : ℕ) → p i ≡ true → find p i (suc left) ≡ i
  unfolding find
  here i left e = rw e

  next : (i left : ℕ) → p i ≡ false → find p i (suc left) ≡ find p (suc i) left
  unfolding find
  next i left e = rw e

  pub none_left : (i : ℕ) → find p i 0 ≡ i
  unfolding find
  none_left i = refl

  -- a turn that finds
  pub find_here : (i n : ℕ) → i < n → p i ≡ true → find p i (n - i) ≡ i
  find_here i n h e = let k : n - i ≡ suc (n - (i + 1)) = omega arith in rw k (here i (n - (i + 1)) e)

  -- a turn that does not
  pub find_next : (i n : ℕ) → i < n → p i ≡ false → find p i (n - i) ≡ find p (i + 1) (n - (i + 1))
  find_next i n h e = let k : n - i ≡ suc (n - (i + 1)) = omega arith in rw (k, add-one) (next i (n - suc i) e)

  -- the end
  pub find_end : (i n : ℕ) → n ≤ i → find p i (n - i) ≡ i
  find_end i n h = let k : n - i ≡ 0 = omega arith in rw k (none_left i)

  -- the answer is no lower than where the run starts, and no higher than its end
  pub find_most : (left i : ℕ) → find p i left ≤ i + left
  unfolding find
  find_most zero i = omega arith
  find_most (suc left) i =
      ⊎_elim (λ e. rw e (omega arith)) (λ e. rw e (let h : find p (suc i) left ≤ suc i + left = find_most left (suc i) in omega arith))
      (decide (p i))

  -- where the answer lies within the run, p holds of it
  pub find_holds : (left i : ℕ) → find p i left < i + left → p (find p i left) ≡ true
  unfolding find
  find_holds zero i h = absurd (omega arith)
  find_holds (suc left) i h =
      ⊎_elim (λ e. rw e e)
      (λ e.
      let g : find p (suc i) left < i + suc left = rw e at h in
      let k : find p (suc i) left < suc i + left = omega arith in
      rw e (find_holds left (suc i) k))
      (decide (p i))

  -- and of no number below it
  pub find_least : (left i j : ℕ) → i ≤ j → j < find p i left → p j ≡ false
  unfolding find
  find_least zero i j a b = absurd (omega arith)
  find_least (suc left) i j a b =
      ⊎_elim (λ e. let g : j < i = rw e at b in absurd (omega arith))
      (λ e.
      let g : j < find p (suc i) left = rw e at b in
      ⊎_elim (λ q. subst (λ (x : ℕ). p x ≡ false) (eqb-true i j q) e)
      (λ q. let n = eqb-false i j q in find_least left (suc i) j (omega arith) g)
      (decide (eqb i j)))
      (decide (p i))

  -- one number more at the end of the run: what was found stays
  pub find_kept : (left i : ℕ) → find p i left < i + left → find p i (suc left) ≡ find p i left
  find_kept zero i h = let g : i < i + 0 = rw (none_left i) at h in absurd (omega arith)
  find_kept (suc left) i h =
      ⊎_elim (λ e. here i (suc left) e ∙ sym (here i left e))
      (λ e.
      let g : find p (suc i) left < i + suc left = rw (next i left e) at h in
      let k : find p (suc i) left < suc i + left = omega arith in
      next i (suc left) e ∙ find_kept left (suc i) k ∙ sym (next i left e))
      (decide (p i))

  -- where nothing was found, the new number is found if p holds of it, and else nothing
  pub find_last : (left i : ℕ) → i + left ≤ find p i left → p (i + left) ≡ true → find p i (suc left) ≡ i + left
  find_last zero i h e = let z : i + 0 ≡ i = omega arith in here i 0 (rw z at e) ∙ sym z
  find_last (suc left) i h e =
      ⊎_elim (λ d. let g : i + suc left ≤ i = rw (here i left d) at h in absurd (omega arith))
      (λ d.
      let g : i + suc left ≤ find p (suc i) left = rw (next i left d) at h in
      let s : i + suc left ≡ suc i + left = omega arith in
      next i (suc left) d ∙ find_last left (suc i) (omega arith) (rw s at e) ∙ sym s)
      (decide (p i))

  pub find_past : (left i : ℕ) → i + left ≤ find p i left → p (i + left) ≡ false → find p i (suc left) ≡ suc (i + left)
  find_past zero i h e = let z : i + 0 ≡ i = omega arith in next i 0 (rw z at e) ∙ none_left (suc i) ∙ ap suc (sym z)
  find_past (suc left) i h e =
      ⊎_elim (λ d. let g : i + suc left ≤ i = rw (here i left d) at h in absurd (omega arith))
      (λ d.
      let g : i + suc left ≤ find p (suc i) left = rw (next i left d) at h in
      let s : i + suc left ≡ suc i + left = omega arith in
      next i (suc left) d ∙ find_past left (suc i) (omega arith) (rw s at e) ∙ ap suc (sym s))
      (decide (p i))

  -- the number of which p holds, and of none before it, is the one that is found
  pub find_is : (left from i : ℕ) → from ≤ i → i < from + left → p i ≡ true → ((k : ℕ) → from ≤ k → k < i → p k ≡ false) → find p from left ≡ i
  find_is zero from i a b e none = absurd (omega arith)
  find_is (suc left) from i a b e none =
      ⊎_elim (λ q. let s : from ≡ i = eqb-true from i q in here from left (rw s e) ∙ s)
      (λ q. let n = eqb-false from i q in
      next from left (none from (omega arith) (omega arith)) ∙ find_is left (suc from) i (omega arith) (omega arith) e (λ k x y. none k (omega arith) y))
      (decide (eqb from i))

  -- and with none, the number behind them
  pub find_none : (left from : ℕ) → ((k : ℕ) → from ≤ k → k < from + left → p k ≡ false) → find p from left ≡ from + left
  find_none zero from none = none_left from ∙ let z : from ≡ from + 0 = omega arith in z
  find_none (suc left) from none =
      let s : suc from + left ≡ from + suc left = omega arith in
      next from left (none from (omega arith) (omega arith)) ∙ find_none left (suc from) (λ k x y. none k (omega arith) (omega arith)) ∙ s

  -- what a walk over a range that stops at the first such number answers
  pub found_first : (n : ℕ) (r : Option ℕ)
      → MatchOption r ((k : ℕ) → 0 ≤ k → k < n → p k ≡ false) (λ i. (0 ≤ i) × (i < n) × (p i ≡ true) × ((k : ℕ) → 0 ≤ k → k < i → p k ≡ false))
      → r ≡ found_row (find p 0 n) n
  found_first n None none = let e : find p 0 n ≡ 0 + n = find_none n 0 (λ k x y. none k x (omega arith)) in sym (found_no_row (find p 0 n) n (omega arith))
  found_first n (Some i) f =
      let e : find p 0 n ≡ i = find_is n 0 i f.0 (omega arith) f.2 f.3 in
      rw e (sym (found_row_lem i n f.1))

  -- and what it answers where the number behind them stands for none
  pub found_or_end : (n : ℕ) (r : Option ℕ)
      → MatchOption r ((k : ℕ) → 0 ≤ k → k < n → p k ≡ false) (λ i. (0 ≤ i) × (i < n) × (p i ≡ true) × ((k : ℕ) → 0 ≤ k → k < i → p k ≡ false))
      → unwrap_or r n ≡ find p 0 n
  found_or_end n None none = let e : find p 0 n ≡ 0 + n = find_none n 0 (λ k x y. none k x (omega arith)) in let z : n ≡ find p 0 n = omega arith in z
  found_or_end n (Some i) f = sym (find_is n 0 i f.0 (omega arith) f.2 f.3)
