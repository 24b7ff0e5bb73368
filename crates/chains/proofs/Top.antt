-- The search from t: where it begins, and what its answer is once the marks of the search are taken away. k is the number of types, as the
-- code holds it.
use mathlib.Core.Path.{◌≡◌, refl, ap, sym, ◌∙◌}
use mathlib.Core.Logic.{◌≢◌, inl, inr, ⊎_elim}
use mathlib.Core.List.{List, ◌∷◌, [], ◌++◌}
use Prim.Native.Nat.{ℕ, zero, suc, ◌≤◌, ◌<◌}
use native.Mathlib.Omega.{arith}
use lib.ListN.{length, get_or, set, take, drop, length-set, take-append-drop}
use lib.Seq.{get_or-take, get_or-set_same, get_or-set_other, drop-set-lt, length-take-le, ext_get_or}
use Rattle.links.specs.Chains.{Graph}
use Rattle.chains.specs.Answer.{Shaped, Settled, unentered, Forgotten, CycleAnswered}
use Rattle.chains.specs.Search.{MayWalk, OnlyMarks, stored, Walked}
use Rattle.chains.proofs.Marks.{same_or_not, free_most, free_falls, unmarked_old, fail_only}
use Rattle.chains.proofs.Correct.{Good, no_cycle, first_cycle}

-- the mark of a type that is not entered stays
other_mark : (m : ℕ) → m ≢ 1 → unentered m ≡ m
other_mark zero n = refl
other_mark (suc zero) n = absurd (n refl)
other_mark (suc (suc m)) n = refl

-- rows stored from the first word on, one behind the other
stored_behind : (i x : ℕ) (fs O : List ℕ) → stored (suc i) fs (x ∷ O) ≡ x ∷ stored i fs O
stored_behind i x [] O = refl
stored_behind i x (f ∷ fs) O = ap (λ (P : List ℕ). set P (suc i) f) (stored_behind (suc i) x fs O)

stored_nowhere : (i : ℕ) (fs : List ℕ) → stored i fs [] ≡ []
stored_nowhere i [] = refl
stored_nowhere i (f ∷ fs) = ap (λ (P : List ℕ). set P i f) (stored_nowhere (suc i) fs)

pub stored_all : (fs O : List ℕ) → stored 0 fs O ≡ take (length O) fs ++ drop (length fs) O
stored_all [] [] = refl
stored_all [] (x ∷ O) = refl
stored_all (f ∷ fs) [] = stored_nowhere 0 (f ∷ fs)
stored_all (f ∷ fs) (x ∷ O) = ap (λ (P : List ℕ). set P 0 f) (stored_behind 0 x fs O) ∙ ap (λ (P : List ℕ). f ∷ P) (stored_all fs O)

-- a marked type is settled, and has no cycle
pub settled_answer : (g : Graph) (t : ℕ) (W : List ℕ) → Settled g W → t < g.types → get_or W t 0 ≢ 0 → (O : List ℕ) → CycleAnswered g t O O 0
settled_answer g t W settled low n O =
    let two : get_or W t 0 ≡ 2 = omega (arith, settled.marking.most t low, settled.calm t low) in
    record { fields = []; right = inr (settled.marking.none t low two, refl); count = refl; written = stored_all [] O }

module _ (g : Graph) (t k : ℕ) (W : List ℕ) (types : k ≡ g.types) (low : t < k) (settled : Settled g W) (fresh : get_or W t 0 ≡ 0) where
  room : t < length W
  room = omega (arith, settled.marking.room)

  below : t < g.types
  below = omega arith

  -- every marked type is settled, and leads to settled types only, which t is not
  good : Good g t [] W
  good v l m =
      let two : get_or W v 0 ≡ 2 = omega (arith, settled.marking.most v l, settled.calm v l) in
      let on : (f : ℕ) → g.start v ≤ f → f < g.stop v → g.next f < g.types → get_or W (g.next f) 0 ≡ 2 =
      λ f a b c. settled.marking.closed v f (g.next f) l two (record { low = a; high = b; leads = refl; type = c }) in
      inr (λ f a b c. (λ (e : g.next f ≡ t). let z = on f a b c in let y : get_or W t 0 ≡ 2 = rw e at z in omega arith, λ z. omega (arith, on f a b c)))

  pub top_ready : (rows : ℕ) → Shaped g rows → MayWalk g rows t 0 (set W t 1)
  top_ready rows shaped =
      record {
        shaped = shaped;
        type = below;
        room = rw length-set (omega (arith, settled.marking.room));
        left = omega (arith, free_most g.types W, free_falls g.types W t below room fresh);
      }

  -- what the walk leaves and returns
  module _ (X O P : List ℕ) (n : ℕ) where
    pub top_only : Walked g t t (g.start t) 0 (set W t 1) X O P n → OnlyMarks g.types (set W t 1) X
    top_only (inl m) = fail_only g t m.fail
    top_only (inr r) = r.only

    pub top_answer : Walked g t t (g.start t) 0 (set W t 1) X O P n → CycleAnswered g t O P n
    top_answer (inl m) =
        record {
          fields = [];
          right = inr (no_cycle g t W good below room m.fail, refl);
          count = m.nothing;
          written = m.output ∙ stored_all [] O;
        }
    top_answer (inr r) =
        record {
          fields = r.fields;
          right = inl (first_cycle g t W good below room r.find);
          count = omega (arith, r.count);
          written = r.output ∙ stored_all r.fields O;
        }

    -- the marks of the search are gone, and those of settled types are as they were
    module _ (Y : List ℕ) (walked : Walked g t t (g.start t) 0 (set W t 1) X O P n) (gone : Forgotten k X Y) where
      calm : (v : ℕ) → v < k → unentered (get_or W v 0) ≡ get_or W v 0
      calm v l = let h : v < g.types = omega arith in other_mark (get_or W v 0) (settled.calm v h)

      set_calm : (v : ℕ) → v < k → unentered (get_or (set W t 1) v 0) ≡ get_or W v 0
      set_calm v l =
          ⊎_elim
          (λ (e : v ≡ t). rw (e, get_or-set_same W t 1 0 room) (sym fresh))
          (λ d. rw (get_or-set_other W t v 1 0 d) (calm v l))
          (same_or_not v t)

      mark_back : (v : ℕ) → v < k → get_or Y v 0 ≡ get_or W v 0
      mark_back v l =
          gone.marks v l
          ∙ ⊎_elim
          (λ e. ap unentered e ∙ set_calm v l)
          (λ (e : (get_or (set W t 1) v 0 ≡ 0) × (get_or X v 0 ≡ 1)). ap unentered e.1 ∙ sym (unmarked_old W t room v e.0))
          ((top_only walked).marks v (omega arith))

      size : length Y ≡ length W
      size = gone.size ∙ (top_only walked).size ∙ length-set W t 1

      front : take k Y ≡ take k W
      front =
          let a : length (take k Y) ≡ k = length-take-le k Y (omega (arith, size, settled.marking.room)) in
          let b : length (take k W) ≡ k = length-take-le k W (omega (arith, settled.marking.room)) in
          ext_get_or 0 (take k Y) (take k W) (a ∙ sym b)
          (λ i h. let l : i < k = omega arith in get_or-take k Y i 0 l ∙ mark_back i l ∙ sym (get_or-take k W i 0 l))

      behind : drop k Y ≡ drop k W
      behind = gone.rest ∙ (rw (← types) at (top_only walked).rest) ∙ drop-set-lt k W t 1 low

      pub top_same : Y ≡ W
      top_same = sym (take-append-drop k Y) ∙ rw (front, behind) (take-append-drop k W)
