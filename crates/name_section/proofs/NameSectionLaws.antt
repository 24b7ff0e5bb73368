-- The test of the name section says what its statement says, both ways.
use mathlib.Core.Path.{◌≡◌, refl, sym}
use mathlib.Core.Bool.{true}
use mathlib.Core.List.{List}
use mathlib.Core.Logic.{⊎_elim}
use Prim.Native.Nat.{ℕ, zero, suc, ◌-◌, ◌<◌, zero-le}
use native.Mathlib.Nat.{eq-or-lt_of_le, le_of_suc-le-suc}
use native.Mathlib.Omega.{arith}
use lib.Dec.{ltb, eqb}
use borrow.Author.Tests.{ltb-true, ltb-false, ne_eqb, le-leb}
use Rattle.names.specs.Names.{before}
use Rattle.table.specs.Layout.{layout_of, name_bytes, name_count}
use Rattle.name_section.specs.NameSection.{name_good, name_rises, names_good, names_rise, names_right, SoundNames}
use Rattle.names.proofs.BoolLaws.{decide, true_false, and_true, or_true}
use Rattle.names.proofs.CountLaws.{every_at, every_intro}
use Rattle.names.proofs.NameLaws.{before_irrefl, before_trans}
use Rattle.name_section.proofs.TextLaws.{name_in, name_is}

module _ (text w : List ℕ) (g : names_good text w (layout_of w) ≡ true) (r : names_rise text w (layout_of w) ≡ true) where
  next_rises : (n : ℕ) → suc n < name_count w → before (name_bytes text w n) (name_bytes text w (suc n)) ≡ true
  unfolding name_rises
  next_rises n h =
      let e : suc n - 1 ≡ n = omega arith in
      let z : suc n ≡ 0 → ⊥ = λ q. omega arith in
      let a = every_at (name_rises text w (layout_of w)) 0 (name_count w) (suc n) r zero-le h in
      rw e at (rw (ne_eqb (suc n) 0 z) at a)

  names_rise_lem : (n m : ℕ) → n < name_count w → m < n → before (name_bytes text w m) (name_bytes text w n) ≡ true
  names_rise_lem zero m h k = absurd (omega arith)
  names_rise_lem (suc n) m h k =
      ⊎_elim (λ q. rw q (next_rises n h))
      (λ q. let l : n < name_count w = omega arith in before_trans (name_bytes text w m) (name_bytes text w n) (name_bytes text w (suc n)) (names_rise_lem n m l q) (next_rises n h))
      (eq-or-lt_of_le (le_of_suc-le-suc k))

  never_same : (n m : ℕ) → n < name_count w → m < n → name_bytes text w m ≡ name_bytes text w n → ⊥
  never_same n m h k e = true_false (names_rise_lem n m h k) (rw e (before_irrefl (name_bytes text w n)))

  names_apart : (n m : ℕ) → n < name_count w → m < name_count w → name_bytes text w n ≡ name_bytes text w m → n ≡ m
  names_apart n m h k e =
      ⊎_elim (λ a. absurd (never_same m n k (ltb-true n m a) e))
      (λ a. ⊎_elim (λ b. absurd (never_same n m h (ltb-true m n b) (sym e))) (λ b. let p = ltb-false n m a in let q = ltb-false m n b in omega arith) (decide (ltb m n)))
      (decide (ltb n m))

  pub sound_names : SoundNames text w
  sound_names =
      record {
        inside = name_in text w (layout_of w) g;
        good = name_is text w (layout_of w) g;
        rise = names_rise_lem;
        apart = names_apart;
      }

module _ (text w : List ℕ) (s : SoundNames text w) where
  rises : (i : ℕ) → i < name_count w → name_rises text w (layout_of w) i ≡ true
  unfolding name_rises
  rises zero h = refl
  rises (suc i) h =
      let e : suc i - 1 ≡ i = omega arith in
      let k : i < suc i = omega arith in
      or_true (eqb (suc i) 0) _ (rw e (s.rise (suc i) i h k))

  pub are_right : names_right text w (layout_of w) ≡ true
  unfolding names_right name_good
  are_right =
      and_true
      (every_intro (name_good text w (layout_of w)) 0 (name_count w) (λ i a b. and_true (le-leb _ _ (s.inside i b)) (s.good i b)))
      (every_intro (name_rises text w (layout_of w)) 0 (name_count w) (λ i a b. rises i b))
