-- A good name lies in the text and is a Spec Name; and of two that start at one place the shorter comes first.
use mathlib.Core.Path.{◌≡◌, sym}
use mathlib.Core.Bool.{true}
use mathlib.Core.List.{List}
use Prim.Native.Nat.{ℕ, ◌-◌, ◌≤◌, ◌<◌, zero-le}
use native.Mathlib.Omega.{arith}
use lib.ListN.{length}
use lib.Dec.{leb, ltb}
use borrow.Author.Tests.{leb-true, ne_eqb}
use Rattle.table.specs.declared.layout.Layout.{Layout}
use Rattle.names.specs.Names.{is_name}
use Rattle.name_section.specs.NameSection.{name_end, bytes_of, name_good, name_rises, names_good}
use Rattle.names.proofs.BoolLaws.{and_left, and_right}
use Rattle.names.proofs.NameLaws.{before_part}
use Rattle.table.specs.Layout.{word_at, name_starts}
use Rattle.names.proofs.CountLaws.{every_at}

module _ (text w : List ℕ) (l : Layout) (e : names_good text w l ≡ true) (i : ℕ) (h : i < l.names) where
  pub name_in : name_end w l i ≤ length text
  unfolding name_good
  name_in = leb-true _ _ (and_left (leb (name_end w l i) (length text)) (is_name (bytes_of text w l i)) (every_at (name_good text w l) 0 l.names i e zero-le h))

  pub name_is : is_name (bytes_of text w l i) ≡ true
  unfolding name_good
  name_is = and_right (leb (name_end w l i) (length text)) (is_name (bytes_of text w l i)) (every_at (name_good text w l) 0 l.names i e zero-le h)

-- two names that start at one place
pub rises_same : (text w : List ℕ) (l : Layout) → names_good text w l ≡ true → (i : ℕ) → i < l.names → (i ≡ 0 → ⊥) → word_at w (name_starts l) (i - 1) ≡ word_at w (name_starts l) i
    → ltb (name_end w l (i - 1)) (name_end w l i) ≡ name_rises text w l i
unfolding name_rises
rises_same text w l e i h n q =
    let k : i - 1 < l.names = omega arith in
    rw (ne_eqb i 0 n)
    (sym (before_part text (word_at w (name_starts l) (i - 1)) (word_at w (name_starts l) i) (name_end w l (i - 1)) (name_end w l i) q (omega arith) (name_in text w l e (i - 1) k) (omega arith) (name_in text w l e i h)))
