-- Laws of the producer's passes: a column is written row by row, and the number tells which types reach each other.
use mathlib.Core.Path.{◌≡◌, refl, ap, sym, subst, ◌∙◌}
use mathlib.Core.Logic.{◌⊎◌, ⊎_elim, ◌≢◌}
use mathlib.Core.List.{List}
use mathlib.Core.Bool.{true, not}
use Prim.Native.Nat.{ℕ, suc, ◌+◌, ◌*◌, ◌-◌, ◌≤◌, ◌<◌}
use native.Mathlib.Omega.{arith}
use lib.Dec.{eqb}
use borrow.Author.Tests.{eqb-true, eqb-false, eq-eqb, ne_eqb, not-true}
use Rattle.names.proofs.BoolLaws.{and_left, and_right, and_true, true_false, below_or_from}
use lib.ListN.{length, get_or, set, length-set}
use lib.Seq.{get_or-set_same, get_or-set_other, drop-set-lt}
use Rattle.links.specs.Chains.{Graph}
use Rattle.table.specs.Layout.{none}
use Rattle.evidence.specs.declared.row.EvidenceColumn.{EvidenceColumn}
use Rattle.evidence.specs.declared.row.EvidenceColumn.TheVariants.{Number, Leader, OutDistance, InDepth}
use Rattle.evidence.specs.Words.{evidence_words, place_of, number, leader}
use Rattle.evidence.specs.Reaches.{Reaches, OnClosedChain}
use Rattle.evidence.specs.Canonical.{Count, Least, Way, Way.here, Other, Mutual}
use Rattle.searching.specs.Search.{MarkedIn, Searched, Cleared}
use Rattle.producer.specs.Produced.{IfMarked, IfMarked.unmarked, IfMarked.marked, OnlyColumn, Filled, NumberIs, LeaderIs, LeaderIs.on, LeaderIs.off, WordIs, Right, Looked, back, FirstBack, FirstBack.not_back, FirstBack.first, LevelIs}
use Rattle.evidence.proofs.TestLaws.{last_or_below}
use Rattle.evidence.proofs.Counts.{count_le, count_lt, count_back, count_unique}
use Rattle.evidence.proofs.Decide.{count_of, other_decided, reaches_decided}
use Rattle.evidence.proofs.Marks.{reach_join, reach_end}
use Rattle.searching.proofs.Reach.{count_as}

-- one row more; j is its word's place
pub filled_more : (g : Graph) (k : EvidenceColumn) (i j v : ℕ) (W X : List ℕ) → j ≡ evidence_words * i + place_of k → place_of k < evidence_words → i < g.types
    → evidence_words * g.types ≤ length W → Filled g k i W X → WordIs g k W i v → Filled g k (suc i) W (set X j v)
filled_more g k i j v W X e low l room f p =
    let size = f.column.size in
    let c : ℕ = place_of k in
    record {
      words = λ t b.
          ⊎_elim
          (λ (q : t ≡ i).
          let at : evidence_words * t + c ≡ j = omega arith in
          let within : j < length X = omega arith in
          rw at (rw (get_or-set_same X j v 0 within) (rw q p)))
          (λ b'.
          let other : evidence_words * t + c ≢ j = omega arith in
          rw (get_or-set_other X j (evidence_words * t + c) v 0 other) (f.words t b'))
          (last_or_below b);
      column = record {
        others = λ t d a b.
            let other : evidence_words * t + d ≢ j = λ q. apart t d a b q in
            get_or-set_other X j (evidence_words * t + d) v 0 other ∙ f.column.others t d a b;
        size = length-set X j v ∙ size;
        rest = drop-set-lt (evidence_words * g.types) X j v (omega arith) ∙ f.column.rest;
      };
    }
  where
    apart : (t d : ℕ) → d < evidence_words → d ≢ place_of k → evidence_words * t + d ≡ j → ⊥
    apart t d a b q = ⊎_elim (λ (x : t < i). omega arith) (λ x. ⊎_elim (λ (y : i < t). omega arith) (λ y. b (omega arith)) (below_or_from i t)) (below_or_from t i)

pub cleared_join : {n : ℕ} {W X Y : List ℕ} → Cleared n W X → Cleared n X Y → Cleared n W Y
cleared_join a b = record { clear = b.clear; size = b.size ∙ a.size; rest = b.rest ∙ a.rest }

module _ (g : Graph) where
  -- how many others, where t reaches itself, and where not
  pub others_closed : (t n : ℕ) → t < g.types → Reaches g t t → Count (Reaches g t) g.types n → NumberIs g t (n - 1)
  others_closed t n l r c =
      let (m, d) = count_of (Other g t) (other_decided g t) g.types in
      let e : suc m ≡ n = count_unique (count_back {R = Reaches g t} t d l r) c in
      let q : n - 1 ≡ m = omega arith in
      rw q d

  -- there is one at least
  pub others_some : (t n : ℕ) → t < g.types → Reaches g t t → Count (Reaches g t) g.types n → 0 < n
  others_some t n l r c =
      let (m, d) = count_of (Other g t) (other_decided g t) g.types in
      let e : suc m ≡ n = count_unique (count_back {R = Reaches g t} t d l r) c in
      omega arith

  -- and where it does not
  pub others_open : (t n : ℕ) → (Reaches g t t → ⊥) → Count (Reaches g t) g.types n → NumberIs g t n
  others_open t n apart c = count_as (λ u l r. (λ e. apart (subst (Reaches g t) e r), r)) (λ u l o. o.1) c

  -- of types that t reaches, those with its number reach it
  number_lower : {t u n m : ℕ} → u < g.types → NumberIs g t n → NumberIs g u m → Reaches g t u → (Reaches g u t → ⊥) → m < n
  number_lower {t} {u} b x y r apart =
      count_lt y x
      (λ v l o. (λ e. apart (subst (Reaches g u) e o.1), reach_join g r o.1))
      u b (λ o. o.0 refl)
      (λ e. apart (subst (λ (v : ℕ). Reaches g v t) (sym e) (subst (λ (v : ℕ). Reaches g t v) e r)), r)

  -- types that reach each other have the same number
  number_most : {t u n m : ℕ} → t < g.types → u < g.types → NumberIs g t n → NumberIs g u m → Mutual g t u → m ≤ n
  number_most {t} {u} a b x y k =
      let h = count_le
      (count_back {R = Reaches g u} u y b (reach_join g k.1 k.0))
      (count_back {R = Reaches g t} t x a (reach_join g k.0 k.1))
      (λ v l q. reach_join g k.0 q) in
      omega arith

  pub number_same : {t u n m : ℕ} → t < g.types → u < g.types → NumberIs g t n → NumberIs g u m → Mutual g t u → m ≡ n
  number_same a b x y k = let p = number_most a b x y k in let q = number_most b a y x (k.1, k.0) in omega arith

  -- and a type that is reached and has the same number reaches
  pub number_mutual : {t u n m : ℕ} → u < g.types → NumberIs g t n → NumberIs g u m → Reaches g t u → ((Reaches g u t) ⊎ (Reaches g u t → ⊥)) → m ≡ n → Mutual g t u
  number_mutual b x y r d e =
      ⊎_elim (λ q. (r, q)) (λ apart. let h = number_lower b x y r apart in absurd (omega arith)) d

  -- after a search the types that t reaches are marked
  pub looked : {t n : ℕ} {W X ev : List ℕ} → Searched g t W X n → Right g Number ev → Looked g t X ev
  looked s h = record { marks = s.marks; numbers = h }

  -- among the types that t reaches, those with its number are those that reach it back
  module _ {t : ℕ} {W ev : List ℕ} (k : Looked g t W ev) (low : t < g.types) where
    back_mutual : (u : ℕ) → u < g.types → back W ev t u ≡ true → Mutual g t u
    back_mutual u b h =
        let m : MarkedIn W u = eqb-false _ _ (not-true _ (and_left (not (eqb (get_or W u 0) 0)) _ h)) in
        let e = eqb-true (number ev u) (number ev t) (and_right (not (eqb (get_or W u 0) 0)) _ h) in
        number_mutual b (k.numbers t low) (k.numbers u b) ((k.marks u b).0 m) (reaches_decided g u t) e

    mutual_back : (u : ℕ) → u < g.types → Mutual g t u → back W ev t u ≡ true
    mutual_back u b m =
        and_true (ap not (ne_eqb (get_or W u 0) 0 ((k.marks u b).1 m.0))) (eq-eqb _ _ (number_same low b (k.numbers t low) (k.numbers u b) m))

    -- so the lowest of these is the leader
    pub first_leader : {v : ℕ} → FirstBack (back W ev t) t v → LeaderIs g t v
    first_leader (not_back e) = off (λ r. true_false (mutual_back t low (r, r)) e)
    first_leader (first {u} l a b below) =
        on (back_mutual t low a).0
        (record {
          holds = back_mutual u (omega arith) b;
          least = λ s m. ⊎_elim (λ (q : s < u). absurd (true_false (mutual_back s (omega arith) m) (below s q))) (λ (q : u ≤ s). q) (below_or_from s u);
        })

  -- a leader that is not NONE
  pub led_on : {t v : ℕ} → LeaderIs g t v → v ≢ none → OnClosedChain g t × Least (Mutual g t) v
  led_on (on c l) n = (c, l)
  led_on (off x) n = absurd (n refl)

  -- a leader that is NONE
  pub led_off : {t v : ℕ} → g.types ≤ none → LeaderIs g t v → v ≡ none → OnClosedChain g t → ⊥
  led_off small (on c l) e = λ _. let h = reach_end g l.holds.0 in omega arith
  led_off small (off x) e = x

  module _ (ev : List ℕ) (t : ℕ) where
    pub distance_itself : leader ev t ≢ none → leader ev t ≡ t → WordIs g OutDistance ev t 0
    distance_itself n e = marked n (record { holds = subst (λ (u : ℕ). Way g u 0 t) (sym e) here; least = λ m w. omega arith })

    pub depth_itself : leader ev t ≢ none → leader ev t ≡ t → WordIs g InDepth ev t 0
    depth_itself n e = marked n (record { holds = subst (λ (u : ℕ). Way g t 0 u) (sym e) here; least = λ m w. omega arith })

    -- distance and depth are levels of a search
    pub distance_level : {l v : ℕ} → LeaderIs g t (leader ev t) → l ≡ leader ev t → leader ev t ≢ none → leader ev t ≢ t → LevelIs g t l v → WordIs g OutDistance ev t v
    distance_level {l} {v} h e n d k =
        let (c, m) = led_on h n in
        marked n (rw e at (k (subst (Reaches g t) (sym e) m.holds.0) (λ q. d (sym e ∙ q))))

    pub depth_level : {l v : ℕ} → LeaderIs g t (leader ev t) → l ≡ leader ev t → leader ev t ≢ none → leader ev t ≢ t → LevelIs g l t v → WordIs g InDepth ev t v
    depth_level {l} {v} h e n d k =
        let (c, m) = led_on h n in
        marked n (rw e at (k (subst (λ (x : ℕ). Reaches g x t) (sym e) m.holds.1) (λ q. d (sym e ∙ sym q))))

    -- a leader is a type
    pub leader_type : {l : ℕ} → LeaderIs g t (leader ev t) → l ≡ leader ev t → leader ev t ≢ none → l < g.types
    leader_type {l} h e n = let (c, m) = led_on h n in rw e (reach_end g m.holds.0)

-- what a pass over another column leaves as it was
pub word_as : {ev ev' : List ℕ} {t v : ℕ} {P Q : ℕ → Type 0} → leader ev t ≡ leader ev' t → (P v → Q v) → IfMarked ev t P v → IfMarked ev' t Q v
word_as e f (unmarked n) = unmarked (sym e ∙ n)
word_as e f (marked n p) = marked (λ q. n (e ∙ q)) (f p)

module _ (g : Graph) {c n : ℕ} {W X : List ℕ} (k : OnlyColumn c n W X) where
  -- numbers and leaders
  pub number_kept : 0 ≢ c → (t : ℕ) → number X t ≡ number W t
  number_kept d t = k.others t 0 (omega arith) d

  pub leader_kept : 1 ≢ c → (t : ℕ) → leader X t ≡ leader W t
  leader_kept d t = k.others t 1 (omega arith) d

  -- so what is right stays right
  pub numbered_kept : 0 ≢ c → Right g Number W → Right g Number X
  numbered_kept d h t l = rw (number_kept d t) (h t l)

  pub led_kept : 1 ≢ c → Right g Leader W → Right g Leader X
  led_kept d h t l = rw (leader_kept d t) (h t l)

  -- and what is asked stays the same
  pub distance_kept : 1 ≢ c → (t v : ℕ) → WordIs g OutDistance X t v → WordIs g OutDistance W t v
  distance_kept d t v w = word_as (leader_kept d t) (λ p. rw (leader_kept d t) at p) w

  pub depth_kept : 1 ≢ c → (t v : ℕ) → WordIs g InDepth X t v → WordIs g InDepth W t v
  depth_kept d t v w = word_as (leader_kept d t) (λ p. rw (leader_kept d t) at p) w
