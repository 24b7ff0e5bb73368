-- What an answer of a search in a part says.
use mathlib.Core.Path.{◌≡◌}
use mathlib.Core.Logic.{⊎_elim}
use Prim.Native.Nat.{ℕ, ◌≤◌, ◌<◌}
use native.Mathlib.Omega.{arith}
use lib.Dec.{ltb}
use borrow.Author.Tests.{lt-ltb, le-ltb, ltb-true, ltb-false}
use Rattle.names.proofs.BoolLaws.{decide}
use Rattle.std.specs.Prelude.{Option, Some, None}
use Rattle.rows.specs.Found.{found_row}

pub found_row_lem : (r n : ℕ) → r < n → found_row r n ≡ Some r
unfolding found_row
found_row_lem r n h = rw (lt-ltb r n h)

pub found_no_row : (r n : ℕ) → n ≤ r → found_row r n ≡ None
unfolding found_row
found_no_row r n h = rw (le-ltb r n h)

never : {A : Type 0} (r : Option ℕ) (t : ℕ) → r ≡ Some t → r ≡ None → A
never r t p q = let z : ◌≡◌ {A = ℕ} 0 1 = cc in absurd (omega arith)

-- a row that is found is there, and is the one that is looked for
pub row_below : (r n t : ℕ) → found_row r n ≡ Some t → r < n
row_below r n t e = ⊎_elim (λ b. ltb-true r n b) (λ b. never (found_row r n) t e (found_no_row r n (ltb-false r n b))) (decide (ltb r n))

pub row_found : (r n t : ℕ) → found_row r n ≡ Some t → t ≡ r
row_found r n t e = let f : found_row r n ≡ Some r = found_row_lem r n (row_below r n t e) in cc

pub no_row : (r n : ℕ) → found_row r n ≡ None → n ≤ r
no_row r n e = ⊎_elim (λ b. never (found_row r n) r (found_row_lem r n (ltb-true r n b)) e) (λ b. ltb-false r n b) (decide (ltb r n))

pub found_below : (r n t : ℕ) → found_row r n ≡ Some t → t < n
found_below r n t e = rw (row_found r n t e) (row_below r n t e)
