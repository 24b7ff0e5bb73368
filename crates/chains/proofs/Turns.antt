-- A turn of the loop over the fields of a type, and what the walk returns, as the search's relations have it.
use mathlib.Core.Path.{◌≡◌, refl, ap, ◌∙◌}
use mathlib.Core.Logic.{inl, inr}
use mathlib.Core.List.{List, ◌∷◌, []}
use Prim.Native.Nat.{ℕ, suc, ◌+◌, ◌*◌, ◌≤◌, ◌<◌}
use native.Mathlib.Omega.{arith}
use native.Mathlib.Numerals.{add-one}
use lib.ListN.{length, get_or, set, length-set}
use Rattle.links.specs.Chains.{Graph}
use Rattle.chains.specs.Search.{free, Skipped, Opens, MayWalk, OnlyMarks, stored, Missed, Arrived, Walked, Fail, Fail.done, Fail.skip, Fail.enter, Find, Find.here, Find.below, Find.past, Find.later}
use Rattle.chains.proofs.Marks.{free_falls, only_enter, only_join, fail_only}
use Rattle.chains.proofs.Total.{fail_free}

module _ (g : Graph) (t end first : ℕ) where
  -- At the head of the loop: the search of the fields from `first` up to `end` came to the field f with the work words W. `failed` and
  -- `found` say how: of a type whose fields end there, a search from here on is the rest of one from `first` on.
  pub record Turn (W₀ W : List ℕ) (f : ℕ) : Type 0 where
    pub only : OnlyMarks g.types W₀ W
    pub left : free g.types W ≤ free g.types W₀
    pub failed : (s : ℕ) → g.stop s ≡ end → (X : List ℕ) → Fail g t s f W X → Fail g t s first W₀ X
    pub found : (s : ℕ) → g.stop s ≡ end → (fs : List ℕ) → Find g t s f W fs → Find g t s first W₀ fs

  -- a turn: the field f leads to the type u
  module _ (W₀ W : List ℕ) (f : ℕ) (w : Turn W₀ W f) where
    pub turn_done : (s : ℕ) → g.stop s ≡ end → end ≤ f → (O P : List ℕ) → P ≡ O → Missed g t s first W₀ W O P 0
    turn_done s e h O P same = record { nothing = refl; fail = w.failed s e W (done (rw e h)); output = same }

    module _ (u : ℕ) (to : u ≡ g.next f) where
      -- u is a type that was not entered, which the walk enters
      module _ {rows s depth : ℕ} (ready : MayWalk g rows s depth W₀) (l : u < g.types) (n : u ≡ t → ⊥) (z : get_or W u 0 ≡ 0) where
        pub opens : Opens g t W f
        opens = record { type = rw to at l; room = omega (arith, ready.room, w.only.size); other = rw to at n; fresh = rw to at z }

        pub enter_falls : 2 * free g.types (set W u 1) + 1 < 2 * free g.types W₀
        enter_falls = omega (arith, w.left, free_falls g.types W u l (omega (arith, ready.room, w.only.size)) z)

        pub enter_ready : MayWalk g rows u (depth + 1) (set W u 1)
        enter_ready =
            record {
              shaped = ready.shaped;
              type = l;
              room = rw length-set (omega (arith, ready.room, w.only.size));
              left = omega (arith, ready.left, enter_falls);
            }

      module _ (lt : f < end) where
        -- u is no type, or was entered before, and is not the target
        pub turn_skip : (Y : List ℕ) → Y ≡ W → (u < g.types → (u ≡ t → ⊥) × (get_or W u 0 ≡ 0 → ⊥)) → Turn W₀ Y (f + 1)
        turn_skip Y e k =
            let k' : Skipped g t W f = rw to at k in
            rw (e, add-one)
            (record {
              only = w.only;
              left = w.left;
              failed = λ s e X r. w.failed s e X (skip (rw e lt) k' r);
              found = λ s e fs r. w.found s e fs (past (rw e lt) k' r);
            })

        module _ (o : Opens g t W f) (X : List ℕ) where
          entered : OnlyMarks g.types (set W (g.next f) 1) X → OnlyMarks g.types W₀ X
          entered h = only_join g.types w.only (only_join g.types (only_enter g.types W (g.next f) o.type o.room o.fresh) h)

          turn_enter : Fail g t (g.next f) (g.start (g.next f)) (set W (g.next f) 1) X → Turn W₀ X (f + 1)
          turn_enter q =
              rw add-one
              (record {
                only = entered (fail_only g t q);
                left = omega (arith, w.left, fail_free g t q, free_falls g.types W (g.next f) o.type o.room o.fresh);
                failed = λ s e Y r. w.failed s e Y (enter (rw e lt) o q r);
                found = λ s e fs r. w.found s e fs (later (rw e lt) o q r);
              })

          -- the walk of u found nothing, and left the work space as Y
          pub turn_missed : (Y O P : List ℕ) (n depth : ℕ) → Y ≡ X → Walked g t u (g.start u) (depth + 1) (set W u 1) X O P n → n ≡ 0 → Turn W₀ Y (f + 1)
          turn_missed Y O P n depth e (inl m) z = rw e (turn_enter (rw to at m.fail))
          turn_missed Y O P n depth e (inr r) z = absurd (omega (arith, r.count))

          -- the walk of u found a chain, and f is stored in front of it
          pub found_below : (s : ℕ) → g.stop s ≡ end → (O₀ O P Q : List ℕ) (n depth : ℕ) → O ≡ O₀ → Q ≡ set P depth f
              → Arrived g t u (g.start u) (depth + 1) (set W u 1) X O P n → Arrived g t s first depth W₀ X O₀ Q n
          found_below s e O₀ O P Q n depth same h r =
              let next_word : P ≡ stored (suc depth) r.fields O₀ = rw (add-one, same) at r.output in
              record {
                fields = f ∷ r.fields;
                find = w.found s e (f ∷ r.fields) (below (rw e lt) o (rw to at r.find));
                count = omega (arith, r.count);
                most = r.most;
                only = entered (rw to at r.only);
                output = h ∙ ap (λ R. set R depth f) next_word;
              }

        -- u is the target
        pub found_here : (s : ℕ) → g.stop s ≡ end → {rows depth : ℕ} → MayWalk g rows s depth W₀ → u < g.types → u ≡ t → (O P : List ℕ)
            → P ≡ set O depth f → Arrived g t s first depth W₀ W O P (depth + 1)
        found_here s k {rows} {depth} ready l e O P h =
            record {
              fields = f ∷ [];
              find = w.found s k (f ∷ []) (here (rw k lt) (rw to at l) (rw to at e));
              count = refl;
              most = omega (arith, ready.left);
              only = w.only;
              output = h;
            }

-- what a search finds is a field at least
find_some : {g : Graph} {t s f : ℕ} {W fs : List ℕ} → Find g t s f W fs → 1 ≤ length fs
find_some (here h l e) = omega arith
find_some (below h o r) = omega arith
find_some (past h k r) = find_some r
find_some (later h o q r) = find_some r

-- a walk that answers 0 stores nothing
pub missed_output : {g : Graph} {t s f depth : ℕ} {W X O P : List ℕ} {n : ℕ} → Walked g t s f depth W X O P n → n ≡ 0 → P ≡ O
missed_output (inl m) z = m.output
missed_output (inr r) z = absurd (omega (arith, r.count, find_some r.find))
