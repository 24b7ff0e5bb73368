-- Rows put in one after the other are one row put in, and what is behind the end is left out.
use mathlib.Core.Path.{◌≡◌, refl, sym, ap, ◌∙◌}
use mathlib.Core.Logic.{⊎_elim}
use mathlib.Core.List.{List, ◌∷◌, [], ◌++◌, append_assoc}
use Prim.Native.Nat.{ℕ, suc, ◌+◌, ◌-◌, ◌≤◌, ◌<◌, min}
use native.Mathlib.Nat.{add-zero}
use native.Mathlib.Omega.{arith}
use lib.Dec.{ltb}
use lib.ListN.{length, take, drop, set, length-append, length-drop}
use lib.Seq.{sets, sets-eq, set_out, length-sets, length-take-le, drop-drop}
use borrow.Author.Tests.{ltb-true, ltb-false}
use borrow.Rule.Slice.PartMut.{put_mid}
use Rattle.std.proofs.lemmas.List.{take-append-drop}
use Rattle.names.proofs.BoolLaws.{decide}
use Rattle.building.specs.Building.{behind, Added}

-- nothing is put in behind the end
sets_out : {A : Type 0} (w : List A) (at : ℕ) (row : List A) → (0 < length row → length w ≤ at) → sets w at row ≡ w
sets_out w at [] h = refl
sets_out w at (a ∷ row) h =
    let b : length w ≤ at = h (omega arith) in
    let e = set_out w at a b in
    rw e (sets_out w (suc at) row (λ _. omega arith))

sets_append : {A : Type 0} (row row₂ w : List A) (at : ℕ) → sets w at (row ++ row₂) ≡ sets (sets w at row) (at + length row) row₂
sets_append [] row₂ w at = rw add-zero
sets_append (a ∷ row) row₂ w at = let e : suc at + length row ≡ at + suc (length row) = omega arith in rw (← e) (sets_append row row₂ (set w at a) (suc at))

sets_behind : {A : Type 0} (w : List A) (at n : ℕ) (row : List A) → sets w (behind at n (length w)) row ≡ sets w (at + n) row
sets_behind w at n row =
    ⊎_elim
    (λ b. let h = ltb-true (at + n) (length w) b in
    let e : behind at n (length w) ≡ at + n = omega arith in
    rw e)
    (λ b. let h = ltb-false (at + n) (length w) b in
    sets_out w (behind at n (length w)) row (λ _. omega arith) ∙ sym (sets_out w (at + n) row (λ _. h)))
    (decide (ltb (at + n) (length w)))

-- what does not fit is left out
sets_fit : {A : Type 0} (row w : List A) (at n : ℕ) → n ≤ length row → (n < length row → length w ≤ at + n) → sets w at row ≡ sets w at (take n row)
sets_fit row w at n few full =
    let long = length-take-le n row few in
    ap (sets w at) (sym (take-append-drop n row)) ∙ sets_append (take n row) (drop n row) w at
    ∙ sets_out _ _ (drop n row) (λ some. omega (arith, long, length-drop n row, length-sets w at (take n row)))

-- the part of a row for which there is room is put in as a whole
pub added_part : {A : Type 0} (row w part : List A) (at n k : ℕ) → at ≤ length w → n ≡ min (length row) (length w - at) → k ≡ n → part ≡ take n row → Added at row w (put_mid at k w part) (at + n)
added_part row w part at n k before room same is =
    let long : length part ≡ n = ap length is ∙ length-take-le n row (omega arith) in
    record {
      words = simp (same, drop-drop, ← append_assoc) (sym (sets_fit row w at n (omega arith) (λ some. omega arith) ∙ ap (sets w at) (sym is) ∙ sets-eq part w at (omega arith) ∙ ap (λ (m : ℕ). take at w ++ part ++ drop (at + m) w) long));
      next = omega arith;
    }

-- no part of a row fits behind the end
pub added_behind : {A : Type 0} (row w : List A) (at : ℕ) → length w ≤ at → Added at row w w at
added_behind row w at h = record { words = sym (sets_out w at row (λ _. h)); next = omega arith }

-- the place behind both
behind_both : (at n m size : ℕ) → behind (behind at n size) m size ≡ behind at (n + m) size
behind_both at n m size = omega arith

-- a slice keeps its length
pub added_length : {A : Type 0} {at p : ℕ} {row w w₁ : List A} → Added at row w w₁ p → length w₁ ≡ length w
added_length {A} {at} {p} {row} {w} {w₁} a = ap length a.words ∙ length-sets w at row

-- a row and then another behind it are both rows put in, one after the other
pub added_seq : {A : Type 0} {at p q : ℕ} {row row₂ w w₁ w₂ : List A} → Added at row w w₁ p → Added p row₂ w₁ w₂ q → Added at (row ++ row₂) w w₂ q
added_seq {A} {at} {p} {q} {row} {row₂} {w} {w₁} {w₂} a b =
    let size : length w₁ ≡ length w = added_length a in
    let place : p ≡ behind at (length row) (length w₁) = rw size a.next in
    record {
      words = b.words ∙ ap (λ (k : ℕ). sets w₁ k row₂) place ∙ sets_behind w₁ at (length row) row₂ ∙ ap (λ (l : List A). sets l (at + length row) row₂) a.words ∙ sym (sets_append row row₂ w at);
      next = rw (length-append, ← behind_both at (length row) (length row₂) (length w), ← size, ← place) b.next;
    }

-- no row at all
pub added_none : {A : Type 0} (at : ℕ) (w : List A) → Added at [] w w at
added_none at w = record { words = refl; next = omega arith }
