-- Laws of `Count` and `Least`: each determines its number, and how the counts of two properties compare.
use mathlib.Core.Path.{◌≡◌, sym}
use mathlib.Core.Logic.{⊎_elim, ◌≢◌}
use Prim.Native.Nat.{ℕ, suc, ◌≤◌, ◌<◌}
use native.Mathlib.Omega.{arith}
use Rattle.evidence.specs.Canonical.{Count, Count.empty, Count.with, Count.without, Least}
use Rattle.evidence.proofs.TestLaws.{last_or_below}

-- one least number
pub least_unique : {P Q : ℕ → Type 0} {n m : ℕ} → Least P n → Least Q m → ((k : ℕ) → P k → Q k) → ((k : ℕ) → Q k → P k) → n ≡ m
least_unique {n} {m} p q f b = let h = p.least m (b m q.holds) in let k = q.least n (f n p.holds) in omega arith

-- of properties that agree
pub least_as : {P Q : ℕ → Type 0} {n : ℕ} → ((k : ℕ) → P k → Q k) → ((k : ℕ) → Q k → P k) → Least P n → Least Q n
least_as {n} f b p = record { holds = f n p.holds; least = λ m q. p.least m (b m q) }

-- a property of fewer numbers has the lower count
pub count_le : {P Q : ℕ → Type 0} {k n m : ℕ} → Count P k n → Count Q k m → ((i : ℕ) → i < k → P i → Q i) → n ≤ m
count_le empty empty h = omega arith
count_le (with p c) (with q d) h = let l = count_le c d (λ i l. h i (omega arith)) in omega arith
count_le (with {k} p c) (without q d) h = absurd (q (h k (omega arith) p))
count_le (without p c) (with q d) h = let l = count_le c d (λ i l. h i (omega arith)) in omega arith
count_le (without p c) (without q d) h = count_le c d (λ i l. h i (omega arith))

-- one count
pub count_unique : {P : ℕ → Type 0} {k n m : ℕ} → Count P k n → Count P k m → n ≡ m
count_unique c d = let a = count_le c d (λ i l p. p) in let b = count_le d c (λ i l p. p) in omega arith

-- strictly lower, where one number has the second property alone
pub count_lt : {P Q : ℕ → Type 0} {k n m : ℕ} → Count P k n → Count Q k m → ((i : ℕ) → i < k → P i → Q i) → (j : ℕ) → j < k → (P j → ⊥) → Q j → n < m
count_lt empty empty h j l x y = absurd (omega arith)
count_lt {P} {Q} (with {k} p c) (with q d) h j l x y =
    ⊎_elim
    (λ (e : j ≡ k). absurd (x (rw e p)))
    (λ l'. let r = count_lt c d (λ i b. h i (omega arith)) j l' x y in omega arith)
    (last_or_below l)
count_lt (with {k} p c) (without q d) h j l x y = absurd (q (h k (omega arith) p))
count_lt (without {k} p c) (with q d) h j l x y = let r = count_le c d (λ i b. h i (omega arith)) in omega arith
count_lt {P} {Q} (without {k} p c) (without q d) h j l x y =
    ⊎_elim (λ (e : j ≡ k). absurd (q (rw e at y))) (λ l'. count_lt c d (λ i b. h i (omega arith)) j l' x y) (last_or_below l)

-- the count is below k, where one number below k lacks the property
pub count_low : {P : ℕ → Type 0} {k n : ℕ} → Count P k n → n ≤ k
count_low empty = omega arith
count_low (with p c) = let r = count_low c in omega arith
count_low (without p c) = let r = count_low c in omega arith

-- and below it, where a number lacks the property
pub count_below : {P : ℕ → Type 0} {k n : ℕ} → Count P k n → (j : ℕ) → j < k → (P j → ⊥) → n < k
count_below empty j l x = absurd (omega arith)
count_below {P} (with {k} p c) j l x =
    ⊎_elim (λ (e : j ≡ k). absurd (x (rw e p))) (λ l'. let r = count_below c j l' x in omega arith) (last_or_below l)
count_below (without p c) j l x = let r = count_low c in omega arith

-- one more, where a number is put back
pub count_back : {R : ℕ → Type 0} (j : ℕ) {k n : ℕ} → Count (λ i. (i ≢ j) × R i) k n → j < k → R j → Count R k (suc n)
count_back j empty l r = absurd (omega arith)
count_back j (with {k} p c) l r =
    ⊎_elim (λ (e : j ≡ k). absurd (p.0 (sym e))) (λ l'. with p.1 (count_back j c l' r)) (last_or_below l)
count_back {R} j (without {k} p c) l r =
    ⊎_elim
    (λ (e : j ≡ k). with (rw e at r) (same_below c (omega arith)))
    (λ l'. without (λ q. p (omega arith, q)) (count_back j c l' r))
    (last_or_below l)
  where
    -- nothing is missing below j
    same_below : {i n : ℕ} → Count (λ i. (i ≢ j) × R i) i n → i ≤ j → Count R i n
    same_below empty b = empty
    same_below (with q d) b = with q.1 (same_below d (omega arith))
    same_below (without q d) b = without (λ s. q (omega arith, s)) (same_below d (omega arith))
