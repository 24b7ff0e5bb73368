-- `all` over a range of numbers is the test `every`.
use Rattle.std.proofs.Common.{◌≡◌, ℕ, zero, suc, ◌+◌, ◌-◌, ◌≤◌, Bool, ◌&&◌, map, refl, sym, ap, ◌∙◌, add-zero, add-one, arith}
use Rattle.std.proofs.Math.Bool.{and-true}
use Rattle.std.specs.Fn.{Called}
use Rattle.std.specs.Iterator.{ChecksAll}
use Rattle.std.specs.List.{list_all, range_with_len}
use Rattle.std.specs.declared.ops.Range.{Range}
use Rattle.std.proofs.iter.Yields.{nat_range_steps}
use Rattle.std.proofs.lemmas.Iterator.{YieldsList-from_range}
use Rattle.std.proofs.lemmas.Iterator.Search.{all_from_yields_List}
use Rattle.std.proofs.lemmas.List.Folds.{list_all-append, list_all-map}
use Rattle.std.proofs.lemmas.List.FromFn.{map-range_with_len_more}
use denote.Param.Members.{Mut}
use Rattle.names.specs.Count.{every}
use Rattle.names.proofs.CountLaws.{every_none, every_next}

module _ (p : ℕ → Bool) (from : ℕ) where
  abbrev all_run : ℕ → Bool
  all_run n = list_all (λ b. b) (map p (range_with_len from n))

  all_run_more : (n : ℕ) → all_run n ≡ every p from (from + n) → all_run (n + 1) ≡ every p from (from + (n + 1))
  all_run_more n h =
      let e : from + (n + 1) ≡ from + n + 1 = omega arith in
      rw (e, map-range_with_len_more p from n (from + n) refl, list_all-append, and-true, every_next p from (from + n) (omega arith)) (ap (λ (b : Bool). b && p (from + n)) h)

  all_run_every : (n : ℕ) → all_run n ≡ every p from (from + n)
  all_run_every zero = rw add-zero (sym (every_none p from))
  all_run_every (suc n) = rw add-one at (all_run_more n (all_run_every n))

  every_range : (to : ℕ) → from ≤ to → list_all p (range_with_len from (to - from)) ≡ every p from to
  every_range to h =
      let e : from + (to - from) ≡ to = omega arith in
      sym (list_all-map (λ b. b) p (range_with_len from (to - from))) ∙ rw e at (all_run_every (to - from))

-- what `(from..to).all(f)` gives, where f computes p
pub every_all : {F : Type 0} {g : Mut F (ℕ × Unit {0}) Bool} (p : ℕ → Bool) (from to : ℕ) (u : Range ℕ) (f : F) (r : Bool) → from ≤ to → ChecksAll nat_range_steps g (record { start = from; end = to }) f r u
    → ((x : ℕ) (b : Bool) (q : F) → Called g f (x, tt) b q → (q ≡ f) × (b ≡ p x)) → r ≡ every p from to
every_all p from to u f r h ran exact =
    all_from_yields_List p u f r ran (YieldsList-from_range from to (to - from) refl refl) exact ∙ every_range p from to h
