-- Document 01, "Refusal numbers": what a call that is lent a work table and an output promises, said once for all such calls and all
-- inputs, refused ones too.
use Rattle.std.specs.Prelude.{◌≡◌, ◌≢◌, List, ◌++◌, ℕ, ◌≤◌, ◌<◌, length, drop, replicate}
use Rattle.table.specs.Refusals.{short_out}
use Rattle.lhakvuni.specs.Answers.{Answer, Returned}

-- the output after a call that is not refused before it: too short, it is left unchanged and the need in words is returned; else the words
-- of the rows stand at its start, their number is returned, and the words behind them are left
pub record Output (rows : ℕ) (words before after : List ℕ) (a : Answer) : Type 0 where
  pub short : length before < length words → Returned a short_out (λ _. length words) × (after ≡ before)
  pub done : length words ≤ length before → Returned a 0 (λ _. rows) × (after ≡ words ++ drop (length words) before)

-- `number` is the first refusal of the checks before the output's, or 0: refused, lent memory is unchanged and only the number is returned;
-- else the first k work words are 0 afterwards, and the rest is unchanged
pub record Promised (number k rows : ℕ) (words work out work' out' : List ℕ) (a : Answer) : Type 0 where
  pub refused : number ≢ 0 → Returned a number (λ v. v) × ((work' ≡ work) × (out' ≡ out))
  pub given : number ≡ 0 → Output rows words out out' a × (work' ≡ replicate k 0 ++ drop k work)
