-- Canonical evidence passes.
-- Rules 5 and 6 hold of the fields that were chosen so. Rule 7: where u is one chain field away from t, all that u reaches t reaches
-- too; if t is not reached from u, then u itself is one more. If it is, both reach the same types, and each leaves out itself.
use mathlib.Core.Path.{◌≡◌, refl, sym, subst}
use mathlib.Core.Logic.{◌⊎◌, inl, inr, ⊎_elim, ◌≢◌, ◌↔◌}
use mathlib.Core.List.{List}
use mathlib.Core.Bool.{Bool, true}
use Prim.Native.Nat.{ℕ, ◌≤◌, ◌<◌}
use native.Mathlib.Omega.{arith}
use Rattle.links.specs.Chains.{Graph, Chain}
use Rattle.chains.specs.Cycles.{PathTo, PathTo.last, PathTo.step}
use Rattle.table.specs.Layout.{none}
use Rattle.evidence.specs.Words.{leader, out_field, in_field}
use Rattle.evidence.specs.Rules.{Passes}
use Rattle.evidence.specs.Reaches.{Reaches}
use Rattle.evidence.specs.Canonical.{Count, Least, Way, Way.here, Other, On, Off, Marks, Marks.on, Marks.off, Canonical}
use Rattle.evidence.proofs.Kept.{Marked, Lower, Kept, keeps, out_at, in_at}
use Rattle.evidence.proofs.Marks.{reach_one, reach_more, reach_join, reach_end}
use Rattle.evidence.proofs.Counts.{count_le, count_lt, count_below, count_back}
use Rattle.evidence.proofs.Ways.{way_zero, same_lowest}
use Rattle.chains.proofs.Marks.{same_or_not}

-- only input objects have chain fields
abbrev pub Inputs : Graph → (ℕ → Bool) → Type 0
Inputs g input = (t f u : ℕ) → t < g.types → Chain g t f u → input t ≡ true

-- a shortest distance is 0 exactly where the two types are one
zero_here : {P : ℕ → Type 0} {d : ℕ} (E : Type 0) → Least P d → (P 0 → E) → (E → P 0) → (d ≡ 0) ↔ E
zero_here {P} {d} E w f b = (λ e. f (subst P e w.holds), λ e. let h = w.least 0 (b e) in omega arith)

module _ (g : Graph) where
  -- numbers along a chain field, where u does not reach t, and where it does
  number_falls : {t f u n m : ℕ} → Count (Other g t) g.types n → Count (Other g u) g.types m → Chain g t f u → (Reaches g u t → ⊥) → m < n
  number_falls {t} {f} {u} a b c apart =
      count_lt b a
      (λ v l o. (λ e. apart (subst (Reaches g u) e o.1), reach_more g c o.1))
      u c.type (λ o. o.0 refl)
      (λ e. apart (subst (λ (v : ℕ). Reaches g v t) (sym e) (subst (λ (v : ℕ). Reaches g t v) e (reach_one g c))), reach_one g c)

  -- where it does
  number_same : {t f u n m : ℕ} → t < g.types → Count (Other g t) g.types n → Count (Other g u) g.types m → Chain g t f u → Reaches g u t → m ≤ n
  number_same {t} {f} {u} l a b c r =
      let h = count_le
      (count_back {R = Reaches g u} u b c.type (reach_join g r (reach_one g c)))
      (count_back {R = Reaches g t} t a l (reach_more g c r))
      (λ v k q. reach_more g c q) in
      omega arith

  -- a chain has a first field
  first_field : {t u : ℕ} → Reaches g t u → (f : ℕ) × (v : ℕ) × Chain g t f v
  first_field r = go r.2
    where
      go : {t u : ℕ} {fs vs : List ℕ} → PathTo g u t fs vs → (f : ℕ) × (v : ℕ) × Chain g t f v
      go {u} (last {f} c) = (f, u, c)
      go (step {f} {v} c p) = (f, v, c)

  module _ (input : ℕ → Bool) (inputs : Inputs g input) (small : g.types ≤ none) (ev : List ℕ) (canonical : Canonical g ev) where
    -- a leader is a type
    leader_type : (t : ℕ) → On g ev t → leader ev t < g.types
    leader_type t a = reach_end g a.leader_word.holds.0

    -- the leader's row names itself as leader
    leader_leads : (t : ℕ) → On g ev t → Marks g ev (leader ev t) → leader ev (leader ev t) ≡ leader ev t
    leader_leads t a (on b) = sym (same_lowest g a.leader_word.holds a.leader_word b.leader_word)
    leader_leads t a (off b) = absurd (b.not_closed (let m = a.leader_word.holds in reach_join g m.1 m.0))

    -- where u is one chain field away from a marked type t, their leaders say whether u reaches t
    back_or_not : {t f u : ℕ} → Chain g t f u → On g ev t → Marks g ev u → Reaches g u t ⊎ (Reaches g u t → ⊥)
    back_or_not {t} {f} {u} c a (off b) = inr (λ r. b.not_closed (reach_join g r (reach_one g c)))
    back_or_not {t} {f} {u} c a (on b) =
        ⊎_elim
        (λ (e : leader ev u ≡ leader ev t). inl (reach_join g b.leader_word.holds.0 (rw e a.leader_word.holds.1)))
        (λ n. inr (λ r. n (same_lowest g (r, reach_one g c) b.leader_word a.leader_word)))
        (same_or_not (leader ev u) (leader ev t))

    -- rule 7 of a marked row
    lower_on : {t f u : ℕ} → t < g.types → leader ev t ≢ none → Chain g t f u → Reaches g u t ⊎ (Reaches g u t → ⊥) → Lower g ev t u
    lower_on {t} {f} {u} l m c d =
        record {
          most =
              ⊎_elim
              (λ r. number_same l (canonical.row t l).number_word (canonical.row u c.type).number_word c r)
              (λ apart. let h = number_falls (canonical.row t l).number_word (canonical.row u c.type).number_word c apart in omega arith)
              d;
          strict = λ e. absurd (m e);
        }

    -- rule 7 of an unmarked row
    lower_off : {t f u : ℕ} → t < g.types → Off g ev t → Chain g t f u → Lower g ev t u
    lower_off {t} {f} {u} l b c =
        let h = number_falls (canonical.row t l).number_word (canonical.row u c.type).number_word c (λ r. b.not_closed (reach_more g c r)) in
        record { most = omega arith; strict = λ e. h }

    -- the rules of a row on a closed chain
    kept_on : (t : ℕ) → t < g.types → On g ev t → Kept g ev t (input t)
    kept_on t l a =
        let low = leader_type t a in
        let (f, u, c) = first_field a.closed in
        record {
          number_low = count_below (canonical.row t l).number_word t l (λ o. o.0 refl);
          leader_low = λ m. low;
          plain = λ e. absurd (omega arith);
          input = λ m. inputs t f u l c;
          led = λ m. leader_leads t a (canonical.row (leader ev t) low).marks;
          distance = λ m. zero_here (leader ev t ≡ t) a.distance_word (λ w. sym (way_zero g w)) (λ e. subst (λ (u : ℕ). Way g u 0 t) (sym e) here);
          depth = λ m. zero_here (leader ev t ≡ t) a.depth_word (λ w. way_zero g w) (λ e. subst (λ (u : ℕ). Way g t 0 u) (sym e) here);
          out = λ m. out_at g ev t (out_field ev t) a.out_word.holds;
          in_none = λ m e. a.in_none e;
          in_some = λ m n. in_at g ev t (in_field ev t) (a.in_word n).holds;
          lower = λ h v d. lower_on l (λ e. omega arith) d (back_or_not d a (canonical.row v d.type).marks);
        }

    -- the rules of a row on none
    kept_off : (t : ℕ) → t < g.types → Off g ev t → Kept g ev t (input t)
    kept_off t l b =
        let unmarked : Marked ev t → ⊥ = λ m. m b.leader_none in
        record {
          number_low = count_below (canonical.row t l).number_word t l (λ o. o.0 refl);
          leader_low = λ m. absurd (unmarked m);
          plain = λ e. (b.out_none, b.distance_none, b.in_none, b.depth_none);
          input = λ m. absurd (unmarked m);
          led = λ m. absurd (unmarked m);
          distance = λ m. absurd (unmarked m);
          depth = λ m. absurd (unmarked m);
          out = λ m. absurd (unmarked m);
          in_none = λ m e. absurd (unmarked m);
          in_some = λ m n. absurd (unmarked m);
          lower = λ f u c. lower_off l b c;
        }

    -- the theorem
    pub canonical_passes : Passes g input ev
    canonical_passes t l = keeps g input ev t (go (canonical.row t l).marks)
      where
        go : Marks g ev t → Kept g ev t (input t)
        go (on a) = kept_on t l a
        go (off b) = kept_off t l b
