-- What is known of the chain fields of a table that is followed.
use mathlib.Core.List.{List}
use Prim.Native.Nat.{ℕ}
use Rattle.table.specs.declared.layout.Layout.{Layout}
use Rattle.searching.specs.Search.{Helping}
use Rattle.evidence.proofs.ChainLaws.{Chained, chained}

pub facts : {w : List ℕ} {l : Layout} {T : List ℕ} → Helping w l T → Chained w l
facts h = chained h.rows
