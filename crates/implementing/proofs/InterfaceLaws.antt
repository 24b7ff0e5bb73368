-- What an answer of `find_interface` says.
use mathlib.Core.Path.{◌≡◌, ap, ◌∙◌}
use mathlib.Core.Bool.{true, false}
use mathlib.Core.List.{List}
use mathlib.Core.Logic.{⊎_elim}
use Prim.Native.Nat.{ℕ, ◌<◌}
use native.Mathlib.Omega.{arith}
use lib.Dec.{eqb}
use borrow.Author.Tests.{ltb-true}
use Rattle.table.specs.declared.numbers.TypeRow.{TypeRow}
use Rattle.table.specs.declared.layout.Layout.{Layout}
use Rattle.table.specs.Kinds.{interface}
use Rattle.table.specs.Layout.{Laid, type_count}
use Rattle.names.proofs.BoolLaws.{decide, and_left}
use Rattle.std.specs.Prelude.{Option, Some, None}
use Rattle.rows.specs.Types.{is_interface, defined, type_named, kind_named}
use Rattle.implementing.specs.Rules.{found_interface}

-- what is known where it answered At j: the name is an interface's, and j is its row
pub record InterfaceAt (w : List ℕ) (l : Layout) (n : ℕ) (j : TypeRow) : Type 0 where
  pub there : is_interface w n ≡ true
  pub row : j.0 ≡ type_named w n
  pub below : j.0 < l.types

never : {A : Type 0} (r : Option TypeRow) (t : TypeRow) → r ≡ Some t → r ≡ None → A
never r t p q = let z : ◌≡◌ {A = ℕ} 0 1 = cc in absurd (omega arith)

module _ (w : List ℕ) (n : ℕ) where
  pub found_yes : is_interface w n ≡ true → found_interface w n ≡ Some (record { 0 = type_named w n })
  unfolding found_interface
  found_yes e = rw e

  pub found_no : is_interface w n ≡ false → found_interface w n ≡ None
  unfolding found_interface
  found_no e = rw e

  interface_below : is_interface w n ≡ true → type_named w n < type_count w
  unfolding is_interface defined
  interface_below e = ltb-true _ _ (and_left (defined w n) (eqb (kind_named w n) interface) e)

  module _ (l : Layout) (laid : Laid w l) (r : Option TypeRow) (e : r ≡ found_interface w n) where
    pub interface_none : r ≡ None → is_interface w n ≡ false
    interface_none a = ⊎_elim (λ b. never r (record { 0 = type_named w n }) (e ∙ found_yes b) a) (λ b. b) (decide (is_interface w n))

    pub interface_at : (j : TypeRow) → r ≡ Some j → InterfaceAt w l n j
    interface_at j a =
        let b : is_interface w n ≡ true = ⊎_elim (λ b. b) (λ b. never r j a (e ∙ found_no b)) (decide (is_interface w n)) in
        let f : found_interface w n ≡ Some (record { 0 = type_named w n }) = found_yes b in
        let g : j ≡ record { 0 = type_named w n } = cc in
        let o : j.0 ≡ type_named w n = ap (λ (x : TypeRow). x.0) g in
        let s : l.types ≡ type_count w = ap (λ (x : Layout). x.types) laid.same in
        record { there = b; row = o; below = rw (o, s) (interface_below b) }
