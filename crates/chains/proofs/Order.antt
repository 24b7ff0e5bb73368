-- The dictionary order tells lists apart, so a type has one first cycle at most, and none where it has no closed chain. So the rows and
-- the count of a type are one, and the contract of `first_cycle` allows one answer only: `answer_unique`.
use mathlib.Core.Path.{◌≡◌, refl, ap, sym, ◌∙◌}
use mathlib.Core.Logic.{inl, inr}
use mathlib.Core.List.{List, ◌∷◌}
use Prim.Native.Nat.{ℕ}
use native.Mathlib.Omega.{arith}
use lib.ListN.{length}
use Rattle.links.specs.Chains.{Graph}
use Rattle.chains.specs.Cycles.{LexLe, LexLe.nil, LexLe.less, LexLe.same, FirstCycle, NoCycle}
use Rattle.chains.specs.Answer.{CycleRows, CycleCount, CycleAnswered}

-- The same at four lists, two of them equal to the others: a match asks for no equation of a list with itself.
lex_both : {fs gs hs is : List ℕ} → LexLe fs gs → LexLe hs is → gs ≡ hs → fs ≡ is → fs ≡ gs
lex_both nil nil e k = cc
lex_both nil (less h) e k = cc
lex_both nil (same q) e k = cc
lex_both (less h) nil e k = cc
lex_both (less {f} {g} h) (less {f = a} {g = b} i) e k =
    let x : g ≡ a = cc in
    let y : f ≡ b = cc in
    absurd (omega arith)
lex_both (less {f} {g} h) (same {f = a} q) e k =
    let x : g ≡ a = cc in
    let y : f ≡ a = cc in
    absurd (omega arith)
lex_both (same p) nil e k = cc
lex_both (same {f} p) (less {f = a} {g = b} i) e k =
    let x : f ≡ a = cc in
    let y : f ≡ b = cc in
    absurd (omega arith)
lex_both (same {f} p) (same q) e k = ap (λ l. f ∷ l) (lex_both p q (cc) (cc))

pub lex_antisym : {fs gs : List ℕ} → LexLe fs gs → LexLe gs fs → fs ≡ gs
lex_antisym p q = lex_both p q refl refl

module _ (g : Graph) (t : ℕ) where
  pub first_unique : (fs gs : List ℕ) → FirstCycle g t fs → FirstCycle g t gs → fs ≡ gs
  first_unique fs gs p q = lex_antisym (p.least gs q.cycle) (q.least fs p.cycle)

  pub never_both : (fs : List ℕ) → FirstCycle g t fs → NoCycle g t → ⊥
  never_both fs p n = n fs p.cycle.types p.cycle.path

  pub rows_unique : (fs gs : List ℕ) → CycleRows g t fs → CycleRows g t gs → fs ≡ gs
  rows_unique fs gs (inl p) (inl q) = first_unique fs gs p q
  rows_unique fs gs (inl p) (inr q) = absurd (never_both fs p q.0)
  rows_unique fs gs (inr p) (inl q) = absurd (never_both gs q p.0)
  rows_unique fs gs (inr p) (inr q) = p.1 ∙ sym q.1

  pub count_unique : (m n : ℕ) → CycleCount g t m → CycleCount g t n → m ≡ n
  count_unique m n p q = p.count ∙ ap length (rows_unique p.fields q.fields p.right q.right) ∙ sym q.count

  pub answer_unique : (before a b : List ℕ) (m n : ℕ) → CycleAnswered g t before a m → CycleAnswered g t before b n → (a ≡ b) × (m ≡ n)
  answer_unique before a b m n p q =
      let e : p.fields ≡ q.fields = rows_unique p.fields q.fields p.right q.right in
      (p.written ∙ rw e (sym q.written), p.count ∙ ap length e ∙ sym q.count)
