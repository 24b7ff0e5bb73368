-- Laws of `contains`: a number stands in a list exactly if it stands at some place of it.
use mathlib.Core.Path.{◌≡◌, refl, sym, ap, ◌∙◌}
use mathlib.Core.Bool.{Bool, true, false, ◌||◌}
use mathlib.Core.List.{List, [], ◌∷◌, ◌++◌}
use mathlib.Core.Logic.{⊎_elim}
use Prim.Native.Nat.{ℕ, ◌+◌, ◌<◌, zero-le}
use native.Mathlib.Omega.{arith}
use lib.ListN.{length, get_or, length-append, get_or-append}
use lib.Seq.{get_or_at}
use lib.Dec.{eqb}
use borrow.Author.Tests.{lt-ltb, ltb-true, eq-eqb, eqb-true, eqb-false}
use Rattle.names.proofs.BoolLaws.{decide, true_false, below_or_from}
use Rattle.rows.specs.Search.{find, index_of, contains}
use Rattle.rows.proofs.FindLaws.{find_holds, find_least}

module _ (l : List ℕ) (n : ℕ) where
  abbrev is : ℕ → Bool
  is i = eqb (get_or l i 0) n

  -- a place where it stands
  pub contains_at : (i : ℕ) → i < length l → get_or l i 0 ≡ n → contains l n ≡ true
  unfolding index_of
  contains_at i h e =
      ⊎_elim (λ b. lt-ltb (index_of l n) (length l) b)
      (λ b. let k : i < index_of l n = omega arith in absurd (true_false (eq-eqb (get_or l i 0) n e) (find_least is (length l) 0 i zero-le k)))
      (below_or_from (index_of l n) (length l))

  pub contains_place : contains l n ≡ true → (index_of l n < length l) × (get_or l (index_of l n) 0 ≡ n)
  unfolding index_of
  contains_place e =
      let h : index_of l n < length l = ltb-true (index_of l n) (length l) e in
      let k : find is 0 (length l) < 0 + length l = omega arith in
      (h, eqb-true (get_or l (index_of l n) 0) n (find_holds is (length l) 0 k))

  -- no place
  pub contains_none : ((i : ℕ) → i < length l → get_or l i 0 ≡ n → ⊥) → contains l n ≡ false
  contains_none none = ⊎_elim (λ e. let q = contains_place e in absurd (none (index_of l n) q.0 q.1)) (λ e. e) (decide (contains l n))

pub contains_nil : (n : ℕ) → contains [] n ≡ false
contains_nil n = contains_none [] n (λ i h e. omega arith)

-- one number more
module _ (l : List ℕ) (x n : ℕ) where
  longer : length (l ++ (x ∷ [])) ≡ length l + 1
  longer = length-append l (x ∷ [])

  last : get_or (l ++ (x ∷ [])) (length l) 0 ≡ x
  last = get_or_at l x [] 0 (length l) refl

  in_front : contains l n ≡ true → contains (l ++ (x ∷ [])) n ≡ true
  in_front e =
      let q = contains_place l n e in
      contains_at (l ++ (x ∷ [])) n (index_of l n) (omega (arith, longer, q.0)) (get_or-append l (x ∷ []) 0 (index_of l n) q.0 ∙ q.1)

  is_last : x ≡ n → contains (l ++ (x ∷ [])) n ≡ true
  is_last e = contains_at (l ++ (x ∷ [])) n (length l) (omega (arith, longer)) (last ∙ e)

  in_neither : contains l n ≡ false → (x ≡ n → ⊥) → contains (l ++ (x ∷ [])) n ≡ false
  in_neither f d =
      contains_none (l ++ (x ∷ [])) n
      (λ i h e.
      ⊎_elim (λ b. true_false (contains_at l n i b (sym (get_or-append l (x ∷ []) 0 i b) ∙ e)) f)
      (λ b. let q : length l ≡ i = omega (arith, longer) in d (sym last ∙ (ap (λ (j : ℕ). get_or (l ++ (x ∷ [])) j 0) q ∙ e)))
      (below_or_from i (length l)))

  pub contains_snoc : contains (l ++ (x ∷ [])) n ≡ contains l n || eqb x n
  contains_snoc =
      ⊎_elim (λ e. in_front e ∙ sym (ap (λ (b : Bool). b || eqb x n) e))
      (λ f.
      ⊎_elim (λ e. is_last (eqb-true x n e) ∙ sym (ap (λ (b : Bool). b || eqb x n) f ∙ e))
      (λ d. in_neither f (eqb-false x n d) ∙ sym (ap (λ (b : Bool). b || eqb x n) f ∙ d))
      (decide (eqb x n)))
      (decide (contains l n))
