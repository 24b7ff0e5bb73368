-- Laws of the tests that the rules are made of, beside those of the crate names.
use mathlib.Core.Path.{◌≡◌, refl, sym, ap, ◌∙◌}
use mathlib.Core.Logic.{◌⊎◌, ⊎_elim}
use mathlib.Core.Bool.{Bool, true, false, ◌&&◌, ◌||◌, beq, false≢true, and-true, or-false, and_assoc, or_assoc}
use Prim.Native.Nat.{ℕ, suc, zero, ◌+◌, ◌-◌, ◌≤◌, ◌<◌}
use native.Mathlib.Omega.{arith}
use native.Mathlib.Nat.{eq-or-lt_of_le, le_of_suc-le-suc, add-zero, zero-add}
use Rattle.std.specs.List.{list_all, list_any, range_with_len}
use Rattle.names.specs.Count.{every}
use Rattle.names.proofs.CountLaws.{every_none, every_next, every_intro}
use Rattle.names.proofs.BoolLaws.{or_cases, or_true, below_or_from}
use Rattle.wellformed.specs.WellFormed.{unless}
use Rattle.evidence.specs.Rules.{implies, any}

-- a disjunction by its first test, and by the second where the first fails
pub or_first : (a b : Bool) → a ≡ true → (a || b) ≡ true
or_first true b h = refl
or_first false b h = absurd (false≢true h)

pub or_else : (a b : Bool) → (a ≡ false → b ≡ true) → (a || b) ≡ true
or_else true b h = refl
or_else false b h = h refl

-- what an implication gives and needs
pub implies_at : (a b : Bool) → implies a b ≡ true → a ≡ true → b ≡ true
implies_at true b h e = h
implies_at false b h e = absurd (false≢true e)

pub implies_of : (a b : Bool) → (a ≡ true → b ≡ true) → implies a b ≡ true
implies_of true b h = h refl
implies_of false b h = refl

-- two tests agree
pub same_eq : (a b : Bool) → beq a b ≡ true → a ≡ b
same_eq true true h = refl
same_eq true false h = sym h
same_eq false true h = h
same_eq false false h = refl

pub eq_same : (a b : Bool) → a ≡ b → beq a b ≡ true
eq_same true true h = refl
eq_same true false h = sym h
eq_same false true h = h
eq_same false false h = refl

-- a rule that is not broken, and the rules behind it
pub unless_true : (a : Bool) (k n : ℕ) → unless a (suc k) n ≡ 0 → a ≡ true
unless_true true k n h = refl
unless_true false k n h = absurd (omega arith)

pub unless_rest : (a : Bool) (k n : ℕ) → unless a (suc k) n ≡ 0 → n ≡ 0
unless_rest true k n h = h
unless_rest false k n h = absurd (omega arith)

-- the last number below suc n, or one below n
pub last_or_below : {k n : ℕ} → k < suc n → (k ≡ n) ⊎ (k < n)
last_or_below h = eq-or-lt_of_le (le_of_suc-le-suc h)

module _ (p : ℕ → Bool) where
  -- what `any` gives and needs
  pub any_at : (n : ℕ) → any p n ≡ true → (k : ℕ) × (k < n) × (p k ≡ true)
  unfolding any
  any_at zero h = absurd (false≢true h)
  any_at (suc n) h =
      ⊎_elim (λ q. let (k, l, e) = any_at n q in (k, omega arith, e)) (λ e. (n, omega arith, e)) (or_cases (any p n) (p n) h)

  pub any_of : (n k : ℕ) → k < n → p k ≡ true → any p n ≡ true
  unfolding any
  any_of zero k l e = absurd (omega arith)
  any_of (suc n) k l e =
      ⊎_elim
      (λ (q : k ≡ n). or_true (any p n) (p n) (rw q at e))
      (λ l'. or_first (any p n) (p n) (any_of n k l' e))
      (last_or_below l)

-- what an iterator answers over the numbers from a up to b, and over those below n
all_next : (p : ℕ → Bool) (a n : ℕ) → list_all p (range_with_len a (suc n)) ≡ list_all p (range_with_len a n) && p (a + n)
all_next p a zero = and-true (p a) ∙ ap p (sym (add-zero a))
all_next p a (suc n) =
    let e : a + 1 + n ≡ a + suc n = omega arith in
    ap (λ x. p a && x) (all_next p (a + 1) n) ∙ sym (and_assoc (p a) (list_all p (range_with_len (a + 1) n)) (p (a + 1 + n))) ∙ ap (λ k. p a && list_all p (range_with_len (a + 1) n) && p k) e

all_upto : (p : ℕ → Bool) (a n : ℕ) → list_all p (range_with_len a n) ≡ every p a (a + n)
all_upto p a zero = rw add-zero (sym (every_none p a))
all_upto p a (suc n) =
    let e : a + suc n ≡ a + n + 1 = omega arith in
    rw (e, all_next, all_upto p a n) (sym (every_next p a (a + n) (omega arith)))

pub all_every : (p : ℕ → Bool) (a b : ℕ) → list_all p (range_with_len a (b - a)) ≡ every p a b
all_every p a b =
    ⊎_elim
    (λ (h : b < a). let e : b - a ≡ 0 = omega arith in rw e (sym (every_intro p a b (λ i l k. absurd (omega arith)))))
    (λ (h : a ≤ b). let e : a + (b - a) ≡ b = omega arith in rw e at (all_upto p a (b - a)))
    (below_or_from b a)

any_next : (p : ℕ → Bool) (a n : ℕ) → list_any p (range_with_len a (suc n)) ≡ list_any p (range_with_len a n) || p (a + n)
any_next p a zero = or-false (p a) ∙ ap p (sym (add-zero a))
any_next p a (suc n) =
    let e : a + 1 + n ≡ a + suc n = omega arith in
    ap (λ x. p a || x) (any_next p (a + 1) n) ∙ sym (or_assoc (p a) (list_any p (range_with_len (a + 1) n)) (p (a + 1 + n))) ∙ ap (λ k. p a || list_any p (range_with_len (a + 1) n) || p k) e

pub any_below : (p : ℕ → Bool) (n : ℕ) → list_any p (range_with_len 0 n) ≡ any p n
unfolding any
any_below p zero = refl
any_below p (suc n) = any_next p 0 n ∙ rw (zero-add, any_below p n) refl
