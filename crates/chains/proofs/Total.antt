-- Every search ends, in a failure or a find. So a type of any graph has a first cycle or no cycle: `decided`.
-- The walk of a type's fields recurses on how many fields are left, and the walk of a type on how many types are left to enter.
use mathlib.Core.Path.{◌≡◌, refl, ◌∙◌}
use mathlib.Core.Logic.{◌⊎◌, inl, inr, ⊎_elim, ◌≢◌}
use mathlib.Core.List.{List, ◌∷◌, []}
use Prim.Native.Nat.{ℕ, suc, zero, ◌+◌, ◌≤◌, ◌<◌}
use native.Mathlib.Omega.{arith}
use lib.ListN.{length, get_or, set, length-set, replicate, length-replicate, get_or-replicate}
use Rattle.links.specs.Chains.{Graph}
use Rattle.chains.specs.Cycles.{FirstCycle, NoCycle}
use Rattle.chains.specs.Search.{free, Skipped, Opens, Fail, Fail.done, Fail.skip, Fail.enter, Find, Find.here, Find.below, Find.past, Find.later}
use Rattle.chains.proofs.Marks.{same_or_not, free_le, free_falls}
use Rattle.chains.proofs.Correct.{Good, blank_good, fail_fresh, no_cycle, first_cycle}
use Rattle.names.proofs.BoolLaws.{below_or_from}

module _ (g : Graph) (t : ℕ) where
  abbrev Outcome : ℕ → ℕ → List ℕ → Type 0
  Outcome s f W = ((X : List ℕ) × Fail g t s f W X) ⊎ ((fs : List ℕ) × Find g t s f W fs)

  -- a failed walk keeps the length of the work space and enters no type twice
  pub fail_length : {s f : ℕ} {W X : List ℕ} → Fail g t s f W X → length X ≡ length W
  fail_length (done h) = refl
  fail_length (skip h k r) = fail_length r
  fail_length (enter {f} {W} h o q r) = fail_length r ∙ fail_length q ∙ length-set W (g.next f) 1

  pub fail_free : {s f : ℕ} {W X : List ℕ} → Fail g t s f W X → free g.types X ≤ free g.types W
  fail_free {W} {X} r = free_le g.types W X (fail_fresh g t r)

  -- the walk goes on behind a field that was passed by
  pass : {s f : ℕ} {W : List ℕ} → f < g.stop s → Skipped g t W f → Outcome s (suc f) W → Outcome s f W
  pass lt k (inl r) = inl (r.0, skip lt k r.1)
  pass lt k (inr r) = inr (r.0, past lt k r.1)

  -- the walk of the type that f leads to, and, where that fails, of the fields behind f
  tried : {s f : ℕ} {W : List ℕ} → f < g.stop s → Opens g t W f → Outcome (g.next f) (g.start (g.next f)) (set W (g.next f) 1)
      → ((X : List ℕ) → length X ≡ length W → free g.types X ≤ free g.types W → Outcome s (suc f) X) → Outcome s f W
  tried {f} lt o (inr r) on = inr (f ∷ r.0, below lt o r.1)
  tried {s} {f} {W} lt o (inl (Y, q)) on =
      go (on Y (fail_length q ∙ length-set W (g.next f) 1) (omega (arith, fail_free q, free_falls g.types W (g.next f) o.type o.room o.fresh)))
    where
      go : Outcome s (suc f) Y → Outcome s f W
      go (inl r) = inl (r.0, enter lt o q r.1)
      go (inr r) = inr (r.0, later lt o q r.1)

  -- one field, by whether there is one, whether it is a chain field, whether it leads to the target, and to a type not entered
  one : {s f : ℕ} {W : List ℕ} → (f < g.stop s) ⊎ (g.stop s ≤ f) → (g.next f < g.types) ⊎ (g.types ≤ g.next f)
      → (g.next f ≡ t) ⊎ (g.next f ≢ t) → (get_or W (g.next f) 0 ≡ 0) ⊎ (get_or W (g.next f) 0 ≢ 0) → g.types ≤ length W
      → (free g.types (set W (g.next f) 1) < free g.types W → Outcome (g.next f) (g.start (g.next f)) (set W (g.next f) 1))
      → ((X : List ℕ) → length X ≡ length W → free g.types X ≤ free g.types W → Outcome s (suc f) X)
      → Outcome s f W
  one {W} (inr l) c d e room walk on = inl (W, done l)
  one {W} (inl lt) (inr far) d e room walk on = pass lt (λ l. absurd (omega arith)) (on W refl (omega arith))
  one {f} (inl lt) (inl l) (inl same) e room walk on = inr (f ∷ [], here lt l same)
  one {W} (inl lt) (inl l) (inr n) (inr m) room walk on = pass lt (λ _. (n, m)) (on W refl (omega arith))
  one {f} {W} (inl lt) (inl l) (inr n) (inl z) room walk on =
      let r : g.next f < length W = omega arith in
      tried lt (record { type = l; room = r; other = n; fresh = z }) (walk (free_falls g.types W (g.next f) l r z)) on

  -- the fields of s from f on, k at most, where a type can be walked with fewer than n types left to enter
  fields : (n : ℕ) → ((s : ℕ) (W : List ℕ) → g.types ≤ length W → free g.types W < n → Outcome s (g.start s) W)
      → (k s f : ℕ) (W : List ℕ) → g.types ≤ length W → free g.types W ≤ n → g.stop s ≤ f + k → Outcome s f W
  fields n walk zero s f W room h b = let l : g.stop s ≤ f = omega arith in inl (W, done l)
  fields n walk (suc k) s f W room h b =
      one (below_or_from f (g.stop s)) (below_or_from (g.next f) g.types) (same_or_not (g.next f) t) (same_or_not (get_or W (g.next f) 0) 0) room
      (λ l. walk (g.next f) (set W (g.next f) 1) (rw length-set room) (omega arith))
      (λ X e l. fields n walk k s (suc f) X (omega arith) (omega arith) (omega arith))

  total : (n s : ℕ) (W : List ℕ) → g.types ≤ length W → free g.types W < n → Outcome s (g.start s) W
  total zero s W room h = absurd (omega arith)
  total (suc n) s W room h = fields n (total n) (g.stop s) s (g.start s) W room (omega arith) (omega arith)

  pub decided : t < g.types → ((fs : List ℕ) × FirstCycle g t fs) ⊎ NoCycle g t
  decided low =
      let Z : List ℕ = replicate g.types 0 in
      let good : Good g t [] Z = blank_good g t Z (λ v l. get_or-replicate g.types v 0 0 l) in
      let room : t < length Z = rw length-replicate low in
      ⊎_elim
      (λ (r : (X : List ℕ) × Fail g t t (g.start t) (set Z t 1) X). inr (no_cycle g t Z good low room r.1))
      (λ (r : (fs : List ℕ) × Find g t t (g.start t) (set Z t 1) fs). inl (r.0, first_cycle g t Z good low room r.1))
      (total (suc (free g.types (set Z t 1))) t (set Z t 1) (rw (length-set, length-replicate) (omega arith)) (omega arith))
