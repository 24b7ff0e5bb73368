-- What an answer of `look_up` says.
use mathlib.Core.Path.{◌≡◌, sym, ap, ◌∙◌}
use mathlib.Core.Bool.{true, false}
use mathlib.Core.Logic.{⊎_elim}
use Prim.Native.Nat.{ℕ, ◌+◌, ◌≤◌, ◌<◌, zero-le}
use native.Mathlib.Omega.{arith}
use lib.Dec.{ltb, eqb}
use borrow.Author.Tests.{lt-ltb, le-ltb, ltb-true, ltb-false, eq-eqb, eqb-true}
use Rattle.table.specs.declared.numbers.TypeRow.{TypeRow}
use Rattle.names.proofs.BoolLaws.{decide, true_false}
use Rattle.rows.proofs.FindLaws.{find_holds, find_least}
use Rattle.wellformed.specs.Sound.{Sound}
use Rattle.std.specs.Prelude.{Option, Some, None, IfSome}
use mathlib.Core.List.{List}
use Rattle.table.specs.declared.layout.Layout.{Layout}
use Rattle.table.specs.Layout.{Laid, type_count, type_name, type_kind}
use Rattle.rows.specs.Types.{found_at, type_named, defined, kind_named}

pub found_at_lem : (r n : ℕ) → r < n → found_at r n ≡ Some (record { 0 = r })
unfolding found_at
found_at_lem r n h = rw (lt-ltb r n h)

pub found_nothing : (r n : ℕ) → n ≤ r → found_at r n ≡ None
unfolding found_at
found_nothing r n h = rw (le-ltb r n h)

never : {A : Type 0} (r : Option TypeRow) (t : TypeRow) → r ≡ Some t → r ≡ None → A
never r t p q = let z : ◌≡◌ {A = ℕ} 0 1 = cc in absurd (omega arith)

-- a type that is found is there, and is the one that is looked for
pub at_below : (r n : ℕ) (t : TypeRow) → found_at r n ≡ Some t → r < n
at_below r n t e = ⊎_elim (λ b. ltb-true r n b) (λ b. never (found_at r n) t e (found_nothing r n (ltb-false r n b))) (decide (ltb r n))

pub at_row : (r n : ℕ) (t : TypeRow) → found_at r n ≡ Some t → t.0 ≡ r
at_row r n t e =
    let f : found_at r n ≡ Some (record { 0 = r }) = found_at_lem r n (at_below r n t e) in
    let g : t ≡ record { 0 = r } = cc in
    ap (λ (x : TypeRow). x.0) g

pub nothing_none : (r n : ℕ) → found_at r n ≡ None → n ≤ r
nothing_none r n e =
    ⊎_elim (λ b. never (found_at r n) (record { 0 = r }) (found_at_lem r n (ltb-true r n b)) e) (λ b. ltb-false r n b) (decide (ltb r n))

pub found_within : (r n : ℕ) (a : Option TypeRow) → a ≡ found_at r n → IfSome a (λ t. t.0 < n)
found_within r n None e = tt
found_within r n (Some t) e = rw (at_row r n t (sym e)) (at_below r n t (sym e))

-- what is known where `look_up` answered At t: the name is a type's, and t is its row
pub record Named (w : List ℕ) (l : Layout) (n : ℕ) (t : TypeRow) : Type 0 where
  pub there : defined w n ≡ true
  pub row : t.0 ≡ type_named w n
  pub below : t.0 < l.types

module _ (w : List ℕ) (l : Layout) (laid : Laid w l) (n : ℕ) (r : Option TypeRow) (e : r ≡ found_at (type_named w n) l.types) where
  types_same : l.types ≡ type_count w
  types_same = ap (λ (x : Layout). x.types) laid.same

  pub named : (t : TypeRow) → r ≡ Some t → Named w l n t
  unfolding defined
  named t a =
      let f = sym e ∙ a in
      let b = at_below _ _ t f in
      let o = at_row _ _ t f in
      record { there = lt-ltb _ _ (rw types_same at b); row = o; below = rw o b }

  pub unnamed : r ≡ None → defined w n ≡ false
  unfolding defined
  unnamed a = le-ltb _ _ (rw types_same at (nothing_none _ _ (sym e ∙ a)))

-- a kind that was read at that row is the name's
pub kind_named_lem : (w : List ℕ) (l : Layout) (n : ℕ) (t : TypeRow) (k : ℕ) → Named w l n t → k ≡ type_kind w t.0 → k ≡ kind_named w n
kind_named_lem w l n t k m e = e ∙ ap (λ (x : ℕ). type_kind w x) m.row

-- the row of a name is a row of that name, and in a well-formed table the only one
module _ (w : List ℕ) (n : ℕ) where
  pub type_named_at : type_named w n < type_count w → type_name w (type_named w n) ≡ n
  unfolding type_named
  type_named_at h = eqb-true _ _ (find_holds (λ t. eqb (type_name w t) n) (type_count w) 0 (let k : type_named w n < 0 + type_count w = omega arith in k))

  pub type_named_least : (t : ℕ) → type_name w t ≡ n → type_named w n ≤ t
  unfolding type_named
  type_named_least t e =
      ⊎_elim (λ b. absurd (true_false (eq-eqb (type_name w t) n e) (find_least (λ t. eqb (type_name w t) n) (type_count w) 0 t zero-le (ltb-true t (type_named w n) b))))
      (λ b. ltb-false t (type_named w n) b)
      (decide (ltb t (type_named w n)))

  pub type_named_only : {text : List ℕ} → Sound text w → (t : ℕ) → t < type_count w → type_name w t ≡ n → type_named w n ≡ t
  type_named_only s t h e =
      let k = type_named_least t e in
      let m : type_named w n < type_count w = omega arith in
      s.apart.types (type_named w n) t zero-le m zero-le h (type_named_at m ∙ sym e)
