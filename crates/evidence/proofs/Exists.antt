-- Every graph has canonical evidence.
-- Numbers, leaders, distances and depths are found first, since each can be decided; with them in a table, fields that fit are
-- found: the first field of a shortest chain to the leader, and the last field of a shortest chain from it.
use mathlib.Core.Path.{◌≡◌, refl, ap, sym, subst, ◌∙◌}
use mathlib.Core.Logic.{◌⊎◌, inl, inr, ⊎_elim, ◌≢◌}
use mathlib.Core.List.{List, ◌∷◌, [], ◌++◌}
use mathlib.Core.Bool.{true}
use Prim.Native.Nat.{ℕ, suc, zero, ◌+◌, ◌*◌, ◌<◌}
use native.Mathlib.Omega.{arith}
use lib.ListN.{length, get_or, length-append, get_or-append}
use lib.Seq.{get_or-append-add}
use Rattle.links.specs.Chains.{Graph, Chain}
use Rattle.table.specs.Layout.{none}
use Rattle.evidence.specs.Words.{evidence_words, number, leader, out_field, out_distance, in_field, in_depth}
use Rattle.evidence.specs.Rules.{any, goes_out, comes_in}
use Rattle.evidence.specs.Reaches.{Reaches, OnClosedChain}
use Rattle.evidence.specs.Canonical.{Count, Least, Way, Way.here, Way.more, Other, Mutual, Marks, Marks.on, Marks.off, Canonical}
use Rattle.evidence.proofs.TestLaws.{last_or_below}
use Rattle.evidence.proofs.Kept.{Out, In, out_true, in_true}
use Rattle.evidence.proofs.Marks.{reach_one, reach_join, reach_end}
use Rattle.evidence.proofs.Counts.{least_as}
use Rattle.evidence.proofs.Ways.{way_reaches, reaches_way, way_last, way_snoc, same_lowest}
use Rattle.evidence.proofs.Unique.{Agree, agree_back, goes_same, comes_same}
use Rattle.evidence.proofs.Decide.{is_true, way_first, least_of, count_of, reaches_decided, mutual_decided, other_decided, way_decided}
use Rattle.names.proofs.BoolLaws.{below_or_from}
use Rattle.chains.proofs.Marks.{same_or_not}

-- the words of a row
record Words : Type 0 where
  pub number_is : ℕ
  pub leader_is : ℕ
  pub out_is : ℕ
  pub distance_is : ℕ
  pub in_is : ℕ
  pub depth_is : ℕ

-- as a list
abbrev list : Words → List ℕ
list w = w.number_is ∷ w.leader_is ∷ w.out_is ∷ w.distance_is ∷ w.in_is ∷ w.depth_is ∷ []

-- the table of n rows
table : (ℕ → Words) → ℕ → List ℕ
table w zero = []
table w (suc n) = table w n ++ list (w n)

-- its length
table_length_lem : (w : ℕ → Words) (n : ℕ) → length (table w n) ≡ evidence_words * n
unfolding table
table_length_lem w zero = refl
table_length_lem w (suc n) = rw length-append (omega (arith, table_length_lem w n))

-- word r of row t
table_at : (w : ℕ → Words) (n t r : ℕ) → t < n → r < evidence_words → get_or (table w n) (evidence_words * t + r) 0 ≡ get_or (list (w t)) r 0
unfolding table
table_at w zero t r l b = absurd (omega arith)
table_at w (suc n) t r l b =
    ⊎_elim
    (λ (e : t ≡ n).
    let q : evidence_words * t + r ≡ length (table w n) + r = omega (arith, table_length_lem w n) in
    rw q (get_or-append-add (table w n) (list (w n)) r 0 ∙ ap (λ (k : ℕ). get_or (list (w k)) r 0) (sym e)))
    (λ l'.
    let q : evidence_words * t + r < length (table w n) = omega (arith, table_length_lem w n) in
    get_or-append (table w n) (list (w n)) 0 (evidence_words * t + r) q ∙ table_at w n t r l' b)
    (last_or_below l)

module _ (g : Graph) where
  -- a chain stays, or reaches
  near_way : {t u n : ℕ} → Way g u n t → (t ≡ u) ⊎ Reaches g t u
  near_way here = inl refl
  near_way (more c w) = inr (way_reaches g (more c w))

  -- a chain that does not stay has a first field
  way_on : {t u n : ℕ} → Way g u n t → t ≢ u → (m : ℕ) × (f : ℕ) × (v : ℕ) × (n ≡ suc m) × Chain g t f v × Way g u m v
  way_on here ne = absurd (ne refl)
  way_on (more {f} {v} {n} c w) ne = (n, f, v, refl, c, w)

  -- what is known of a row before its fields are: where it is on a closed chain, and where not
  module _ (ev : List ℕ) (t : ℕ) where
    pub record Half : Type 0 where
      pub closed : OnClosedChain g t
      pub leader_word : Least (Mutual g t) (leader ev t)
      pub distance_word : Least (λ n. Way g (leader ev t) n t) (out_distance ev t)
      pub depth_word : Least (λ n. Way g t n (leader ev t)) (in_depth ev t)

    -- and of a row on none
    pub record Nothing : Type 0 where
      pub not_closed : OnClosedChain g t → ⊥
      pub leader_none : leader ev t ≡ none
      pub distance_none : out_distance ev t ≡ none
      pub depth_none : in_depth ev t ≡ none

  -- fields that fit, in a table whose leaders, distances and depths are right
  module _ (ev : List ℕ) (known : (t : ℕ) → t < g.types → Half ev t ⊎ Nothing ev t) where
    -- a type that t reaches, and that reaches t, is known in the same way
    half : (t u : ℕ) → Mutual g t u → Half ev u
    half t u m =
        ⊎_elim (λ h. h) (λ n. absurd (n.not_closed (reach_join g m.1 m.0))) (known u (reach_end g m.0))

    -- they have the same leader
    led_same : (t u : ℕ) → Half ev t → Mutual g t u → leader ev u ≡ leader ev t
    led_same t u h m = sym (same_lowest g m h.leader_word (half t u m).leader_word)

    -- the first field of a shortest chain to the leader fits
    out_step : (t : ℕ) → Half ev t → {m f u : ℕ} → out_distance ev t ≡ suc m → Chain g t f u → Way g (leader ev t) m u → Out g ev t f
    out_step t h {m} {f} {u} d c w =
        let from_leader : Reaches g (leader ev t) t = h.leader_word.holds.1 in
        let back : Reaches g u t =
        ⊎_elim (λ (e : u ≡ leader ev t). subst (λ (x : ℕ). Reaches g x t) (sym e) from_leader) (λ r. reach_join g r from_leader) (near_way w) in
        let k : Mutual g t u = (reach_one g c, back) in
        let e : leader ev u ≡ leader ev t = led_same t u h k in
        let x = (half t u k).distance_word.least m (subst (λ (v : ℕ). Way g v m u) (sym e) w) in
        let y = h.distance_word.least (suc (out_distance ev u)) (more c (subst (λ (v : ℕ). Way g v (out_distance ev u) u) e (half t u k).distance_word.holds)) in
        record { field = rw c.leads c; same = rw c.leads e; closer = λ n. rw c.leads (omega arith) }

    -- of a leader, so does the first field of any closed chain
    out_round : (t : ℕ) → Half ev t → leader ev t ≡ t → {m f u : ℕ} → Chain g t f u → Way g t m u → Out g ev t f
    out_round t h l {m} {f} {u} c w =
        let back : Reaches g u t = ⊎_elim (λ (e : u ≡ t). subst (λ (x : ℕ). Reaches g x t) (sym e) h.closed) (λ r. r) (near_way w) in
        record {
          field = rw c.leads c;
          same = rw c.leads (led_same t u h (reach_one g c, back));
          closer = λ n. absurd (n l);
        }

    -- an out field exists
    pub out_some : (t : ℕ) → Half ev t → (f : ℕ) × Out g ev t f
    out_some t h =
        ⊎_elim
        (λ (e : leader ev t ≡ t). let (n, w) = reaches_way g h.closed in let (f, u, c, v) = way_first g w in (f, out_round t h e c v))
        (λ n. let (m, f, u, d, c, v) = way_on h.distance_word.holds (λ e. n (sym e)) in (f, out_step t h d c v))
        (same_or_not (leader ev t) t)

    -- the last field of a shortest chain from the leader fits
    in_step : (t : ℕ) → Half ev t → {m f s : ℕ} → in_depth ev t ≡ suc m → Chain g s f t → Way g s m (leader ev t) → In g ev t f
    in_step t h {m} {f} {s} d c w =
        let to_leader : Reaches g t (leader ev t) = h.leader_word.holds.0 in
        let forth : Reaches g t s =
        ⊎_elim (λ (e : leader ev t ≡ s). subst (Reaches g t) e to_leader) (λ r. reach_join g to_leader r) (near_way w) in
        let k : Mutual g t s = (forth, reach_one g c) in
        let e : leader ev s ≡ leader ev t = led_same t s h k in
        let x = (half t s k).depth_word.least m (subst (λ (v : ℕ). Way g s m v) (sym e) w) in
        let y = h.depth_word.least (suc (in_depth ev s)) (way_snoc g (subst (λ (v : ℕ). Way g s (in_depth ev s) v) e (half t s k).depth_word.holds) c) in
        record { owner = s; row = reach_end g forth; field = c; same = e; closer = omega arith }

    -- an in field exists
    pub in_some : (t : ℕ) → Half ev t → leader ev t ≢ t → (f : ℕ) × In g ev t f
    in_some t h n =
        let (m, _, _, d, _, _) = way_on h.depth_word.holds n in
        let (s, f, w, c) = way_last g (subst (λ (k : ℕ). Way g t k (leader ev t)) d h.depth_word.holds) in
        (f, in_step t h d c w)

  -- number, leader, distance and depth of a type, found
  record Found (t : ℕ) : Type 0 where
    pub closed : OnClosedChain g t
    pub lead : (n : ℕ) × Least (Mutual g t) n
    pub distance : (n : ℕ) × Least (λ k. Way g lead.0 k t) n
    pub depth : (n : ℕ) × Least (λ k. Way g t k lead.0) n

  -- a shortest chain
  least_way : (t u : ℕ) → Reaches g t u → (n : ℕ) × Least (λ k. Way g u k t) n
  least_way t u r = let (n, w) = reaches_way g r in least_of (λ k. Way g u k t) (λ k. way_decided g u k t) (suc n) w

  -- whether t is on a closed chain, and what is then known
  find : (t : ℕ) → Found t ⊎ (OnClosedChain g t → ⊥)
  find t = ⊎_elim (λ r. inl (build r)) (λ n. inr n) (reaches_decided g t t)
    where
      build : OnClosedChain g t → Found t
      build r =
          let l = least_of (Mutual g t) (mutual_decided g t) t (r, r) in
          record { closed = r; lead = l; distance = least_way t l.0 l.1.holds.0; depth = least_way l.0 t l.1.holds.1 }

  -- its number
  count : (t : ℕ) → (n : ℕ) × Count (Other g t) g.types n
  count t = count_of (Other g t) (other_decided g t) g.types

  -- a row, with the fields o and i
  words : (t o i : ℕ) → Found t ⊎ (OnClosedChain g t → ⊥) → Words
  words t o i (inl f) =
      record { number_is = (count t).0; leader_is = f.lead.0; out_is = o; distance_is = f.distance.0; in_is = i; depth_is = f.depth.0 }
  words t o i (inr n) =
      record { number_is = (count t).0; leader_is = none; out_is = none; distance_is = none; in_is = none; depth_is = none }

  -- the words of row t of a table are those
  record Holds (ev : List ℕ) (t o i : ℕ) (r : Found t ⊎ (OnClosedChain g t → ⊥)) : Type 0 where
    pub number_at : number ev t ≡ (words t o i r).number_is
    pub leader_at : leader ev t ≡ (words t o i r).leader_is
    pub out_at : out_field ev t ≡ (words t o i r).out_is
    pub distance_at : out_distance ev t ≡ (words t o i r).distance_is
    pub in_at : in_field ev t ≡ (words t o i r).in_is
    pub depth_at : in_depth ev t ≡ (words t o i r).depth_is

  -- the table with the fields that o and i choose
  made : (o i : ℕ → ℕ) → List ℕ
  made o i = table (λ t. words t (o t) (i t) (find t)) g.types

  -- each row holds its words
  made_holds : (o i : ℕ → ℕ) (t : ℕ) → t < g.types → Holds (made o i) t (o t) (i t) (find t)
  unfolding made
  made_holds o i t l =
      let w : ℕ → Words = λ t. words t (o t) (i t) (find t) in
      record {
        number_at = table_at w g.types t 0 l (omega arith);
        leader_at = table_at w g.types t 1 l (omega arith);
        out_at = table_at w g.types t 2 l (omega arith);
        distance_at = table_at w g.types t 3 l (omega arith);
        in_at = table_at w g.types t 4 l (omega arith);
        depth_at = table_at w g.types t 5 l (omega arith);
      }

  -- so leaders, distances and depths are right
  holds_known : (ev : List ℕ) (t o i : ℕ) (r : Found t ⊎ (OnClosedChain g t → ⊥)) → Holds ev t o i r → Half ev t ⊎ Nothing ev t
  unfolding words
  holds_known ev t o i (inl f) h =
      inl
      (record {
        closed = f.closed;
        leader_word = rw h.leader_at f.lead.1;
        distance_word = rw (h.leader_at, h.distance_at) f.distance.1;
        depth_word = rw (h.leader_at, h.depth_at) f.depth.1;
      })
  holds_known ev t o i (inr n) h =
      inr (record { not_closed = n; leader_none = h.leader_at; distance_none = h.distance_at; depth_none = h.depth_at })

  -- two such tables differ in the fields alone
  holds_agree : (ev ev' : List ℕ) (t o i o' i' : ℕ) (r : Found t ⊎ (OnClosedChain g t → ⊥)) → Holds ev t o i r → Holds ev' t o' i' r
      → (leader ev t ≡ leader ev' t) × (out_distance ev t ≡ out_distance ev' t) × (in_depth ev t ≡ in_depth ev' t)
  unfolding words
  holds_agree ev ev' t o i o' i' (inl f) h k = (h.leader_at ∙ sym k.leader_at, h.distance_at ∙ sym k.distance_at, h.depth_at ∙ sym k.depth_at)
  holds_agree ev ev' t o i o' i' (inr n) h k = (h.leader_at ∙ sym k.leader_at, h.distance_at ∙ sym k.distance_at, h.depth_at ∙ sym k.depth_at)

  -- the table without fields
  first : List ℕ
  first = made (λ t. 0) (λ t. 0)

  -- they are right in it
  first_known : (t : ℕ) → t < g.types → Half first t ⊎ Nothing first t
  unfolding first
  first_known t l = holds_known first t 0 0 (find t) (made_holds (λ t. 0) (λ t. 0) t l)

  -- the lowest out field
  choose_out : (t : ℕ) → (o : ℕ) × (Half first t → t < g.types → Least (λ f. goes_out g first t f ≡ true) o)
  choose_out t = ⊎_elim some (λ n. (0, λ h l. absurd (omega arith))) (below_or_from t g.types)
    where
      some : t < g.types → (o : ℕ) × (Half first t → t < g.types → Least (λ f. goes_out g first t f ≡ true) o)
      some l =
          ⊎_elim
          (λ h.
          let (f, out) = out_some first first_known t h in
          let (o, least) = least_of (λ f. goes_out g first t f ≡ true) (λ f. is_true (goes_out g first t f)) f (out_true g first t f out) in
          (o, λ _ _. least))
          (λ n. (0, λ h l. absurd (n.not_closed h.closed)))
          (first_known t l)

  -- an in field of a type that does not lead itself, and NONE of a leader
  abbrev Chosen : ℕ → ℕ → Type 0
  Chosen t i = (leader first t ≡ t → i ≡ none) × (leader first t ≢ t → Least (λ f. any (comes_in g first t f) g.types ≡ true) i)

  -- the lowest in field
  choose_in : (t : ℕ) → (i : ℕ) × (Half first t → t < g.types → Chosen t i)
  choose_in t = ⊎_elim some (λ n. (0, λ h l. absurd (omega arith))) (below_or_from t g.types)
    where
      other : Half first t → leader first t ≢ t → (i : ℕ) × Chosen t i
      other h n =
          let (f, i) = in_some first first_known t h n in
          let (m, least) = least_of (λ f. any (comes_in g first t f) g.types ≡ true) (λ f. is_true (any (comes_in g first t f) g.types)) f (in_true g first t f i) in
          (m, (λ e. absurd (n e), λ _. least))

      some : t < g.types → (i : ℕ) × (Half first t → t < g.types → Chosen t i)
      some l =
          ⊎_elim
          (λ h.
          let (i, c) = ⊎_elim (λ (e : leader first t ≡ t). (none, (λ _. refl, λ n. absurd (n e)))) (other h) (same_or_not (leader first t) t) in
          (i, λ _ _. c))
          (λ n. (0, λ h l. absurd (n.not_closed h.closed)))
          (first_known t l)

  -- the table with them
  pub evidence : List ℕ
  evidence = made (λ t. (choose_out t).0) (λ t. (choose_in t).0)

  -- it holds its words
  evidence_holds : (t : ℕ) → t < g.types → Holds evidence t (choose_out t).0 (choose_in t).0 (find t)
  unfolding evidence
  evidence_holds t l = made_holds (λ t. (choose_out t).0) (λ t. (choose_in t).0) t l

  -- it agrees with the first
  three_same : (t : ℕ) → t < g.types → (leader first t ≡ leader evidence t) × (out_distance first t ≡ out_distance evidence t) × (in_depth first t ≡ in_depth evidence t)
  unfolding first
  three_same t l =
      holds_agree first evidence t 0 0 (choose_out t).0 (choose_in t).0 (find t) (made_holds (λ t. 0) (λ t. 0) t l) (evidence_holds t l)

  -- in every row
  agree : Agree g.types first evidence
  agree = record { leaders = λ t l. (three_same t l).0; distances = λ t l. (three_same t l).1; depths = λ t l. (three_same t l).2 }

  -- its rows are canonical
  marks_of : (t : ℕ) → t < g.types → (r : Found t ⊎ (OnClosedChain g t → ⊥)) → Holds evidence t (choose_out t).0 (choose_in t).0 r → Marks g evidence t
  unfolding words
  marks_of t l (inl f) h =
      let half : Half first t = ⊎_elim (λ k. k) (λ n. absurd (n.not_closed f.closed)) (first_known t l) in
      let same = agree.leaders t l in
      on
      (record {
        closed = f.closed;
        leader_word = rw h.leader_at f.lead.1;
        distance_word = rw (h.leader_at, h.distance_at) f.distance.1;
        depth_word = rw (h.leader_at, h.depth_at) f.depth.1;
        out_word = subst (Least _) (sym h.out_at) (least_as (goes_same g agree t l) (goes_same g (agree_back agree) t l) ((choose_out t).1 half l));
        in_none = λ e. h.in_at ∙ ((choose_in t).1 half l).0 (same ∙ e);
        in_word = λ n. subst (Least _) (sym h.in_at) (least_as (comes_same g agree t l) (comes_same g (agree_back agree) t l) (((choose_in t).1 half l).1 (λ e. n (sym same ∙ e))));
      })
  marks_of t l (inr n) h =
      off
      (record {
        not_closed = n;
        leader_none = h.leader_at;
        out_none = h.out_at;
        distance_none = h.distance_at;
        in_none = h.in_at;
        depth_none = h.depth_at;
      })

  -- numbers do not depend on the fields
  number_of : (t : ℕ) (o i : ℕ) (r : Found t ⊎ (OnClosedChain g t → ⊥)) → (words t o i r).number_is ≡ (count t).0
  unfolding words
  number_of t o i (inl f) = refl
  number_of t o i (inr n) = refl

  -- its length
  evidence_length : length evidence ≡ evidence_words * g.types
  unfolding evidence made
  evidence_length = table_length_lem _ g.types

  -- the theorem
  pub evidence_canonical : Canonical g evidence
  evidence_canonical =
      record {
        size = evidence_length;
        row = λ t l.
            let h = evidence_holds t l in
            let e : number evidence t ≡ (count t).0 = h.number_at ∙ number_of t (choose_out t).0 (choose_in t).0 (find t) in
            record { number_word = rw e (count t).1; marks = marks_of t l (find t) h };
      }
