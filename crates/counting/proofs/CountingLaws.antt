-- The work table while the counts are filled in behind the marks. k is the number of types, as the code holds it.
use mathlib.Core.Path.{◌≡◌, ap, ◌∙◌}
use mathlib.Core.Logic.{⊎_elim}
use mathlib.Core.List.{List}
use Prim.Native.Nat.{ℕ, ◌+◌, ◌*◌, ◌<◌}
use native.Mathlib.Omega.{arith}
use lib.Dec.{eqb}
use lib.ListN.{length, get_or, set, drop, length-set}
use lib.Seq.{get_or-set_same, get_or-set_other, drop-set-lt, get_or-take, get_or-drop}
use borrow.Author.Tests.{eqb-true, eqb-false}
use Rattle.names.proofs.BoolLaws.{decide}
use Rattle.links.specs.Chains.{Graph}
use Rattle.chains.specs.Work.{work_words}
use Rattle.chains.specs.Answer.{Settled, CycleCount}
use Rattle.chains.proofs.SettleLaws.{settled_behind}
use Rattle.counting.specs.Counting.{Counted, counts_in}

-- the counts of the types below t are filled in
pub record Counting (g : Graph) (k : ℕ) (before after : List ℕ) (t : ℕ) : Type 0 where
  pub settled : Settled g after
  pub size : length after ≡ length before
  pub rest : drop (work_words * k) after ≡ drop (work_words * k) before
  pub counts : (u : ℕ) → u < t → CycleCount g u (get_or after (k + u) 0)

module _ (g : Graph) (k : ℕ) (types : k ≡ g.types) (before : List ℕ) where
  module _ (after : List ℕ) (t n : ℕ) (f : Counting g k before after t) (low : t < k) (c : CycleCount g t n) where
    room : k + t < length after
    room = omega (arith, f.settled.marking.room)

    more_counts : (u : ℕ) → u < t + 1 → CycleCount g u (get_or (set after (k + t) n) (k + u) 0)
    more_counts u h =
        ⊎_elim
        (λ b. let e : u ≡ t = eqb-true u t b in
        let s : get_or (set after (k + t) n) (k + t) 0 ≡ n = get_or-set_same after (k + t) n 0 room in
        rw (e, s) c)
        (λ b. let d = eqb-false u t b in
        let s : get_or (set after (k + t) n) (k + u) 0 ≡ get_or after (k + u) 0 = get_or-set_other after (k + t) (k + u) n 0 (λ q. d (omega arith)) in
        rw s (f.counts u (omega arith)))
        (decide (eqb u t))

    pub filling_more : (now : List ℕ) → now ≡ after → Counting g k before (set now (k + t) n) (t + 1)
    filling_more now e =
        rw e record {
          settled = settled_behind f.settled (k + t) n (omega arith);
          size = length-set after (k + t) n ∙ f.size;
          rest = drop-set-lt (work_words * k) after (k + t) n (omega arith) ∙ f.rest;
          counts = more_counts;
        }

-- the counts, as the rules are handed them
pub counts_part : (g : Graph) (k : ℕ) → k ≡ g.types → (before mid : List ℕ) → Counted g before mid → (u : ℕ) → u < g.types → CycleCount g u (counts_in k mid u)
counts_part g k types before mid c u l =
    let e : counts_in k mid u ≡ get_or mid (g.types + u) 0 = get_or-take k (drop k mid) u 0 (omega arith) ∙ get_or-drop k mid u 0 ∙ ap (λ (x : ℕ). get_or mid (x + u) 0) types in
    rw e (c.counts u l)
