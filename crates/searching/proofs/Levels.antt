-- The list of the search is sorted by level, so that a level is a shortest distance.
-- Every level is at most one more than that of the type whose fields are walked next, so a type that is met again is not further away.
use mathlib.Core.Path.{◌≡◌, refl, ap, sym, subst, ◌∙◌}
use mathlib.Core.Logic.{⊎_elim, ◌≢◌}
use mathlib.Core.List.{List}
use Prim.Native.Nat.{ℕ, suc, zero, ◌+◌, ◌≤◌, ◌<◌}
use native.Mathlib.Omega.{arith}
use lib.ListN.{length, get_or, drop}
use Rattle.links.specs.Chains.{Graph, Chain}
use Rattle.evidence.specs.Reaches.{Reaches}
use Rattle.evidence.specs.Canonical.{Way, Way.here, Way.more}
use Rattle.chains.specs.Work.{trail_at}
use Rattle.searching.specs.Search.{level_of, MarkedIn, listed_type, MarksListed, Grown, Visited, Searched}
use Rattle.evidence.proofs.TestLaws.{last_or_below}
use Rattle.evidence.proofs.Marks.{reach_end}
use Rattle.evidence.proofs.Ways.{way_zero, way_reaches, reaches_way, way_last, way_snoc}
use Rattle.searching.proofs.Reach.{count_as, grown_marks}
use Rattle.names.proofs.BoolLaws.{below_or_from}

-- the level of a type of the list
abbrev pub level : ℕ → List ℕ → ℕ → ℕ
level types X i = level_of X (listed_type types X i)

-- levels stay
level_kept : {types n m : ℕ} {X Y : List ℕ} → MarksListed types X n → Grown types X n Y m → (i : ℕ) → i < n → level types Y i ≡ level types X i
level_kept {types} {n} {m} {X} {Y} h g i l = ap (λ (v : ℕ). get_or Y v 0) (g.same i l) ∙ g.kept (listed_type types X i) (h.types_only i l) (h.marked i l)

module _ (g : Graph) where
  -- the search so far, since the fields of t were walked: those of the types listed below `head` were, too
  pub record Searching (t : ℕ) (W : List ℕ) (head : ℕ) (X : List ℕ) (n : ℕ) : Type 0 where
    pub listed : MarksListed g.types X n
    pub sorted : (i j : ℕ) → i ≤ j → j < n → level g.types X i ≤ level g.types X j
    pub ahead : head < n → (j : ℕ) → j < n → level g.types X j ≤ level g.types X head + 1
    pub small : (j : ℕ) → j < n → level g.types X j ≤ j + 1
    pub start : (f u : ℕ) → Chain g t f u → MarkedIn X u × (get_or X u 0 ≤ 1)
    pub done : (i : ℕ) → i < head → (f u : ℕ) → Chain g (listed_type g.types X i) f u → MarkedIn X u × (get_or X u 0 ≤ level g.types X i + 1)
    pub way : (u : ℕ) → u < g.types → MarkedIn X u → Way g u (get_or X u 0) t
    pub size : length X ≡ length W
    pub rest : drop (trail_at g.types) X ≡ drop (trail_at g.types) W

  module _ {t n : ℕ} {W X : List ℕ} (z : (u : ℕ) → u < g.types → get_or W u 0 ≡ 0) (v : Visited g t (g.stop t) 1 W 0 X n) where
    first_only : (u : ℕ) → u < g.types → MarkedIn X u → (h : ℕ) × Chain g t h u × (get_or X u 0 ≡ 1)
    first_only u l m = ⊎_elim (λ k. absurd (k (z u l))) (λ r. r) (v.only u l m)

    -- after the fields of t were walked
    pub searching_first : Searching t X 0 X n
    searching_first =
        record {
          listed = v.grown.listed;
          sorted = λ i j a b. let x = v.new i (omega arith) (omega arith) in let y = v.new j (omega arith) b in omega arith;
          ahead = λ l j b. let y = v.new j (omega arith) b in omega arith;
          small = λ j b. let y = v.new j (omega arith) b in omega arith;
          start = λ f u c. let m = v.led f u c.high c in let (_, _, e) = first_only u c.type m in (m, omega arith);
          done = λ i l. absurd (omega arith);
          way = λ u l m. let (f, c, e) = first_only u l m in rw e (more c here);
          size = refl;
          rest = refl;
        }

  module _ {t head n m : ℕ} {W X Y : List ℕ} (l : head < n) (s : Searching t W head X n)
      (v : Visited g (listed_type g.types X head) (g.stop (listed_type g.types X head)) (level g.types X head + 1) X n Y m) where
    old : (i : ℕ) → i < n → level g.types Y i ≡ level g.types X i
    old = level_kept s.listed v.grown

    -- the levels are at most one more than that of the type at `head`
    bound : (j : ℕ) → j < m → level g.types Y j ≤ level g.types X head + 1
    bound j b =
        ⊎_elim
        (λ (a : j < n). let x = old j a in let y = s.ahead l j a in omega arith)
        (λ a. let x = v.new j a b in omega arith)
        (below_or_from j n)

    -- and at least that level, from `head` on
    at_least : (j : ℕ) → head ≤ j → j < m → level g.types X head ≤ level g.types Y j
    at_least j h b =
        ⊎_elim
        (λ (a : j < n). let x = old j a in let y = s.sorted head j h a in omega arith)
        (λ a. let x = v.new j a b in omega arith)
        (below_or_from j n)

    -- the list stays sorted
    more_sorted : (i j : ℕ) → i ≤ j → j < m → level g.types Y i ≤ level g.types Y j
    more_sorted i j a b =
        ⊎_elim
        (λ (c : j < n). let x = old i (omega arith) in let y = old j c in let z = s.sorted i j a c in omega arith)
        (λ c. let x = bound i (omega arith) in let y = v.new j c b in omega arith)
        (below_or_from j n)

    -- what is known of a type that was marked
    kept_mark : (u k : ℕ) → u < g.types → MarkedIn X u × (get_or X u 0 ≤ k) → MarkedIn Y u × (get_or Y u 0 ≤ k)
    kept_mark u k b (x, y) = let e = v.grown.kept u b x in (grown_marks v.grown u b x, omega arith)

    -- a type that the fields at `head` lead to
    new_mark : (f u : ℕ) → Chain g (listed_type g.types X head) f u → MarkedIn Y u × (get_or Y u 0 ≤ level g.types X head + 1)
    new_mark f u c =
        let y = v.led f u c.high c in
        ⊎_elim
        (λ (x : MarkedIn X u).
        let (j, b, e) = s.listed.listed u c.type x in
        let k : get_or X u 0 ≤ level g.types X head + 1 = rw e at (s.ahead l j b) in
        kept_mark u (level g.types X head + 1) c.type (x, k))
        (λ (_, _, e). (y, omega arith))
        (v.only u c.type y)

    -- after the fields of one type more
    pub searching_more : Searching t W (suc head) Y m
    searching_more =
        let grows = v.grown.more in
        record {
          listed = v.grown.listed;
          sorted = more_sorted;
          ahead = λ a j b. let x = bound j b in let y = at_least (suc head) (omega arith) a in omega arith;
          small = λ j b.
              ⊎_elim
              (λ (a : j < n). let x = old j a in let y = s.small j a in omega arith)
              (λ a. let x = v.new j a b in let y = s.small head l in omega arith)
              (below_or_from j n);
          start = λ f u c. kept_mark u 1 c.type (s.start f u c);
          done = λ i b f u c.
              let same : listed_type g.types Y i ≡ listed_type g.types X i = v.grown.same i (omega arith) in
              let d : Chain g (listed_type g.types X i) f u = subst (λ (x : ℕ). Chain g x f u) same c in
              let k : MarkedIn Y u × (get_or Y u 0 ≤ level g.types X i + 1) =
              ⊎_elim
              (λ (e : i ≡ head). rw e (new_mark f u (rw e at d)))
              (λ a. kept_mark u (level g.types X i + 1) c.type (s.done i a f u d))
              (last_or_below b) in
              (k.0, let x = old i (omega arith) in let y = k.1 in omega arith);
          way = λ u b y.
              ⊎_elim
              (λ x. rw (v.grown.kept u b x) (s.way u b x))
              (λ (f, c, e).
              let q : get_or Y u 0 ≡ suc (level g.types X head) = omega arith in
              rw q (way_snoc g (s.way (listed_type g.types X head) (s.listed.types_only head l) (s.listed.marked head l)) c))
              (v.only u b y);
          size = v.grown.size ∙ s.size;
          rest = v.grown.rest ∙ s.rest;
        }

  -- at the end every type that is reached is marked, at its distance
  module _ (t n m : ℕ) (U W X : List ℕ) (v : Visited g t (g.stop t) 1 U 0 W m) (s : Searching t W n X n) where
    level_low : (k u : ℕ) → Way g u (suc k) t → MarkedIn X u × (get_or X u 0 ≤ suc k)
    level_low zero u w =
        let (q, f, x, c) = way_last g w in s.start f u (subst (λ (y : ℕ). Chain g y f u) (sym (way_zero g x)) c)
    level_low (suc k) u w =
        let (q, f, x, c) = way_last g w in
        let (a, b) = level_low k q x in
        let (i, l, e) = s.listed.listed q (reach_end g (way_reaches g x)) a in
        let (d, r) = s.done i l f u (subst (λ (y : ℕ). Chain g y f u) (sym e) c) in
        let r' : get_or X u 0 ≤ get_or X q 0 + 1 = rw e at r in
        (d, omega arith)

    -- a level is a shortest distance
    shortest : (u : ℕ) → u ≢ t → (k : ℕ) → Way g u k t → get_or X u 0 ≤ k
    shortest u d zero w = absurd (d (sym (way_zero g w)))
    shortest u d (suc k) w = (level_low k u w).1

    -- marked is reached
    reach_marked : (u : ℕ) → Reaches g t u → MarkedIn X u
    reach_marked u r = let (k, w) = reaches_way g r in (level_low k u w).0

    marked_reach : (u : ℕ) → u < g.types → MarkedIn X u → Reaches g t u
    marked_reach u l x = go (get_or X u 0) refl (s.way u l x)
      where
        go : (k : ℕ) → get_or X u 0 ≡ k → Way g u k t → Reaches g t u
        go zero e w = absurd (x e)
        go (suc k) e w = way_reaches g w

    -- the theorem
    pub searched : Searched g t U X n
    searched =
        record {
          marks = λ u l. (marked_reach u l, reach_marked u);
          count = count_as marked_reach (λ u l. reach_marked u) s.listed.count;
          level = λ u l x d. record { holds = s.way u l x; least = shortest u d };
          size = s.size ∙ v.grown.size;
          rest = s.rest ∙ v.grown.rest;
        }
