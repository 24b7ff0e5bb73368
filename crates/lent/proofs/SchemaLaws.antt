-- What the rules over a whole table were asked for before they were lent a `Schema` follows from that value's facts.
use mathlib.Core.List.{List}
use Prim.Native.Nat.{ℕ}
use Rattle.table.specs.declared.layout.Layout.{Layout}
use Rattle.rows.specs.Readable.{Spelled}
use Rattle.rows.specs.Index.{Legible}
use Rattle.rising.specs.Lists.{Findable, Prepared}

module _ {text w : List ℕ} {l : Layout} {cells lists : List ℕ} (findable : Findable w l cells lists) (spelled : Spelled text w l) where
  pub legible : Legible text w l cells
  legible = record { readable = record { sound = findable.indexed.rows; spelled = spelled }; types = findable.indexed.types }

  pub prepared : Prepared text w l cells lists
  prepared = record { legible = legible; sorted = findable.sorted }
