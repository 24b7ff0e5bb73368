-- What the loop over defined edges is handed: a rule, which is asked for the row of an edge and for its interface. What it may answer is
-- `post e t o r u`: for edge e and interface t, lent the output o, r records, and u is then left.
use Rattle.std.specs.Prelude.{cond, List, ℕ, ◌≤◌, ◌<◌, Option, Some, None}
use denote.Ref.{MutBor}
use Rattle.table.specs.declared.numbers.TypeRow.{TypeRow}
use Rattle.records.specs.declared.Record.{Record}
use Rattle.records.specs.Records.{Emitted}
use Rattle.rows.specs.Types.{is_interface, type_named}

-- the row of the interface with the name, as a search for it answers
unfoldable pub found_interface : (w : List ℕ) (n : ℕ) → Option TypeRow
found_interface w n = cond (is_interface w n) (Some (record { 0 = type_named w n })) None

-- it may be asked for any edge and any of so many types
abbrev pub Callable : (ℕ → TypeRow → MutBor (List ℕ) → Type 0) → ℕ → Type 0
Callable pre types = (e : ℕ) (t : TypeRow) (o : MutBor (List ℕ)) → t.0 < types → pre e t o

module _ (post : ℕ → TypeRow → MutBor (List ℕ) → ℕ → MutBor (List ℕ) → Type 0) (types : ℕ) where
  -- for each it lists what `list` says
  abbrev pub ListsDefined : (ℕ → ℕ → List Record) → Type 0
  ListsDefined list = (e : ℕ) (t : TypeRow) (o : MutBor (List ℕ)) (r : ℕ) (u : MutBor (List ℕ)) → t.0 < types → post e t o r u → Emitted (list e t.0) o.now u.now r

  -- whatever that list is, what f makes of it is then emitted
  abbrev pub EmitsDefined : ((ℕ → ℕ → List Record) → List Record) → List ℕ → List ℕ → ℕ → Type 0
  EmitsDefined f before after n = (list : ℕ → ℕ → List Record) → ListsDefined list → Emitted (f list) before after n

  -- and it lists no more than so many
  abbrev pub AtMostDefined : ℕ → Type 0
  AtMostDefined most = (e : ℕ) (t : TypeRow) (o : MutBor (List ℕ)) (r : ℕ) (u : MutBor (List ℕ)) → t.0 < types → post e t o r u → r ≤ most
