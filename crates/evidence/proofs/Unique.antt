-- Canonical evidence is unique: two tables that are canonical for one graph are equal.
-- The marks, leaders, distances and depths do not depend on the table; with those equal, so are the fields that fit.
use mathlib.Core.Path.{◌≡◌, refl, sym, subst, ◌∙◌}
use mathlib.Core.Logic.{⊎_elim, ◌≢◌}
use mathlib.Core.List.{List}
use mathlib.Core.Bool.{true}
use Prim.Native.Nat.{ℕ, suc, zero, ◌+◌, ◌*◌, ◌/◌, ◌%◌, ◌<◌}
use native.Mathlib.Omega.{arith}
use lib.ListN.{get_or}
use lib.Seq.{ext_get_or}
use Rattle.links.specs.Chains.{Graph}
use Rattle.evidence.specs.Words.{evidence_words, leader, out_field, out_distance, in_field, in_depth}
use Rattle.evidence.specs.Rules.{any, goes_out, comes_in}
use Rattle.evidence.specs.Canonical.{Way, On, Marks, Marks.on, Marks.off, Canonical}
use Rattle.evidence.proofs.Kept.{Out, In, out_at, out_true, in_at, in_true}
use Rattle.evidence.proofs.Counts.{least_unique, count_unique}
use Rattle.chains.proofs.Marks.{same_or_not}

-- what holds of the six words of every row below n holds of every word
pub each_word : (P : ℕ → Type 0) (n : ℕ)
    → ((t : ℕ) → t < n → P (evidence_words * t + 0) × P (evidence_words * t + 1) × P (evidence_words * t + 2) × P (evidence_words * t + 3) × P (evidence_words * t + 4) × P (evidence_words * t + 5))
    → (i : ℕ) → i < evidence_words * n → P i
each_word P n h i l = go (i % 6) refl
  where
    six : P (evidence_words * (i / 6) + 0) × P (evidence_words * (i / 6) + 1) × P (evidence_words * (i / 6) + 2) × P (evidence_words * (i / 6) + 3) × P (evidence_words * (i / 6) + 4) × P (evidence_words * (i / 6) + 5)
    six = let b : i / 6 < n = omega arith in h (i / 6) b

    go : (r : ℕ) → i % 6 ≡ r → P i
    go zero e = let q : evidence_words * (i / 6) + 0 ≡ i = omega arith in subst P q six.0
    go (suc zero) e = let q : evidence_words * (i / 6) + 1 ≡ i = omega arith in subst P q six.1
    go (suc (suc zero)) e = let q : evidence_words * (i / 6) + 2 ≡ i = omega arith in subst P q six.2
    go (suc (suc (suc zero))) e = let q : evidence_words * (i / 6) + 3 ≡ i = omega arith in subst P q six.3
    go (suc (suc (suc (suc zero)))) e = let q : evidence_words * (i / 6) + 4 ≡ i = omega arith in subst P q six.4
    go (suc (suc (suc (suc (suc zero))))) e = let q : evidence_words * (i / 6) + 5 ≡ i = omega arith in subst P q six.5
    go (suc (suc (suc (suc (suc (suc r)))))) e = absurd (omega arith)

-- two tables have the same leaders, distances and depths
pub record Agree (n : ℕ) (ev ev' : List ℕ) : Type 0 where
  pub leaders : (t : ℕ) → t < n → leader ev t ≡ leader ev' t
  pub distances : (t : ℕ) → t < n → out_distance ev t ≡ out_distance ev' t
  pub depths : (t : ℕ) → t < n → in_depth ev t ≡ in_depth ev' t

-- agreeing is symmetric
pub agree_back : {n : ℕ} {ev ev' : List ℕ} → Agree n ev ev' → Agree n ev' ev
agree_back a = record { leaders = λ t l. sym (a.leaders t l); distances = λ t l. sym (a.distances t l); depths = λ t l. sym (a.depths t l) }

module _ (g : Graph) where
  -- then the same fields fit
  out_same : {ev ev' : List ℕ} → Agree g.types ev ev' → (t : ℕ) → t < g.types → (f : ℕ) → Out g ev t f → Out g ev' t f
  out_same {ev} {ev'} a t l f o =
      let u : ℕ = g.next f in
      let lt = a.leaders t l in
      let lu = a.leaders u o.field.type in
      record {
        field = o.field;
        same = sym lu ∙ o.same ∙ lt;
        closer = λ n. let e = o.closer (λ q. n (sym lt ∙ q)) in let x = a.distances t l in let y = a.distances u o.field.type in omega arith;
      }

  -- the same for in fields
  in_same : {ev ev' : List ℕ} → Agree g.types ev ev' → (t : ℕ) → t < g.types → (f : ℕ) → In g ev t f → In g ev' t f
  in_same {ev} {ev'} a t l f i =
      record {
        owner = i.owner;
        row = i.row;
        field = i.field;
        same = sym (a.leaders i.owner i.row) ∙ i.same ∙ a.leaders t l;
        closer = let e = i.closer in let x = a.depths t l in let y = a.depths i.owner i.row in omega arith;
      }

  -- as tests
  pub goes_same : {ev ev' : List ℕ} → Agree g.types ev ev' → (t : ℕ) → t < g.types → (f : ℕ) → goes_out g ev t f ≡ true → goes_out g ev' t f ≡ true
  goes_same {ev} {ev'} a t l f h = out_true g ev' t f (out_same a t l f (out_at g ev t f h))

  pub comes_same : {ev ev' : List ℕ} → Agree g.types ev ev' → (t : ℕ) → t < g.types → (f : ℕ)
      → any (comes_in g ev t f) g.types ≡ true → any (comes_in g ev' t f) g.types ≡ true
  comes_same {ev} {ev'} a t l f h = in_true g ev' t f (in_same a t l f (in_at g ev t f h))

  module _ (ev ev' : List ℕ) (c : Canonical g ev) (c' : Canonical g ev') where
    -- leader, distance and depth of a row
    record Three (t : ℕ) : Type 0 where
      pub leaders : leader ev t ≡ leader ev' t
      pub distances : out_distance ev t ≡ out_distance ev' t
      pub depths : in_depth ev t ≡ in_depth ev' t

    -- leader, distance and depth of two canonical rows
    three_on : (t : ℕ) → On g ev t → On g ev' t → Three t
    three_on t a b =
        let e : leader ev t ≡ leader ev' t = least_unique a.leader_word b.leader_word (λ k p. p) (λ k p. p) in
        record {
          leaders = e;
          distances = least_unique a.distance_word b.distance_word (λ k p. subst (λ (u : ℕ). Way g u k t) e p) (λ k p. subst (λ (u : ℕ). Way g u k t) (sym e) p);
          depths = least_unique a.depth_word b.depth_word (λ k p. subst (λ (u : ℕ). Way g t k u) e p) (λ k p. subst (λ (u : ℕ). Way g t k u) (sym e) p);
        }

    three : (t : ℕ) → Marks g ev t → Marks g ev' t → Three t
    three t (on a) (on b) = three_on t a b
    three t (on a) (off b) = absurd (b.not_closed a.closed)
    three t (off a) (on b) = absurd (a.not_closed b.closed)
    three t (off a) (off b) =
        record {
          leaders = a.leader_none ∙ sym b.leader_none;
          distances = a.distance_none ∙ sym b.distance_none;
          depths = a.depth_none ∙ sym b.depth_none;
        }

    -- of every row
    row_three : (t : ℕ) → t < g.types → Three t
    row_three t l = three t (c.row t l).marks (c'.row t l).marks

    agree : Agree g.types ev ev'
    agree = record { leaders = λ t l. (row_three t l).leaders; distances = λ t l. (row_three t l).distances; depths = λ t l. (row_three t l).depths }

    -- and the fields
    fields : (t : ℕ) → t < g.types → Marks g ev t → Marks g ev' t → (out_field ev t ≡ out_field ev' t) × (in_field ev t ≡ in_field ev' t)
    fields t l (on a) (on b) = (
      least_unique a.out_word b.out_word (λ f. goes_same agree t l f) (λ f. goes_same (agree_back agree) t l f),
      ⊎_elim
          (λ (e : leader ev t ≡ t). a.in_none e ∙ sym (b.in_none (sym (agree.leaders t l) ∙ e)))
          (λ (n : leader ev t ≢ t).
          least_unique (a.in_word n) (b.in_word (λ e. n (agree.leaders t l ∙ e))) (λ f. comes_same agree t l f) (λ f. comes_same (agree_back agree) t l f))
          (same_or_not (leader ev t) t),
    )
    fields t l (on a) (off b) = absurd (b.not_closed a.closed)
    fields t l (off a) (on b) = absurd (a.not_closed b.closed)
    fields t l (off a) (off b) = (a.out_none ∙ sym b.out_none, a.in_none ∙ sym b.in_none)

    -- the theorem
    pub canonical_unique : ev ≡ ev'
    canonical_unique =
        ext_get_or 0 ev ev' (c.size ∙ sym c'.size)
        (λ i l. each_word (λ (k : ℕ). get_or ev k 0 ≡ get_or ev' k 0) g.types
        (λ t b. let f = fields t b (c.row t b).marks (c'.row t b).marks in
        (count_unique (c.row t b).number_word (c'.row t b).number_word, agree.leaders t b, f.0, agree.distances t b, f.1, agree.depths t b))
        i (omega (arith, c.size)))
