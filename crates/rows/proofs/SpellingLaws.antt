-- What stands at a name's place, read by a layout, is what its bytes are.
use mathlib.Core.Path.{◌≡◌, refl}
use mathlib.Core.List.{List}
use Prim.Native.Nat.{ℕ}
use Rattle.names.specs.Names.{starts_reserved, builtin_scalar}
use Rattle.table.specs.declared.layout.Layout.{Layout}
use Rattle.table.specs.Layout.{Laid}
use Rattle.wellformed.specs.WellFormed.{bytes_of}
use Rattle.rows.specs.Types.{reserved, builtin}

module _ (text w : List ℕ) (l : Layout) (n : ℕ) (laid : Laid w l) (s : List ℕ) (e : s ≡ bytes_of text w l n) where
  pub reserved_bytes : reserved text w n ≡ starts_reserved s
  unfolding reserved
  reserved_bytes = rw (e, laid.same) refl

  pub builtin_bytes : builtin text w n ≡ builtin_scalar s
  unfolding builtin
  builtin_bytes = rw (e, laid.same) refl
