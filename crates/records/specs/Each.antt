-- A rule that is asked for one row after the other. What it may answer is `post i o r u`: for row i, lent the output o, r records, and u is then left.
use Rattle.std.specs.Prelude.{List, ℕ, ◌^◌, ◌≤◌, ◌<◌}
use denote.Ref.{MutBor}
use Rattle.records.specs.declared.Record.{Record}
use Rattle.records.specs.Records.{Emitted}

-- no section has more rows
abbrev pub most_rows : ℕ
most_rows = 2 ^ 14

-- and no rule lists more records for one of them
abbrev pub most_of_row : ℕ
most_of_row = 2 ^ 44

module _ (post : ℕ → MutBor (List ℕ) → ℕ → MutBor (List ℕ) → Type 0) (n : ℕ) where
  -- for each of the rows below n it lists what `list` says
  abbrev pub Lists : (ℕ → List Record) → Type 0
  Lists list = (i : ℕ) (o : MutBor (List ℕ)) (r : ℕ) (u : MutBor (List ℕ)) → i < n → post i o r u → Emitted (list i) o.now u.now r

  -- and no more than so many
  abbrev pub AtMost : ℕ → Type 0
  AtMost most = (i : ℕ) (o : MutBor (List ℕ)) (r : ℕ) (u : MutBor (List ℕ)) → i < n → post i o r u → r ≤ most
