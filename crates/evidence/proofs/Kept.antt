-- The seven rules as statements: `kept` reads them off a row that breaks none, and `keeps` shows that a row breaks none.
use mathlib.Core.Path.{◌≡◌, refl, ap, sym, subst, ◌∙◌}
use mathlib.Core.Logic.{⊎_elim, ◌≢◌, ◌↔◌}
use mathlib.Core.List.{List}
use mathlib.Core.Bool.{Bool, true, false, not, beq}
use Prim.Native.Nat.{ℕ, ◌+◌, ◌≤◌, ◌<◌}
use lib.Dec.{leb, ltb, eqb}
use borrow.Author.Tests.{ltb-true, leb-true, eqb-true, eqb-false, not-true, not-false, lt-ltb, le-leb, eq-eqb, ne_eqb}
use Rattle.links.specs.Chains.{Graph, Chain}
use Rattle.table.specs.Layout.{none}
use Rattle.evidence.specs.Words.{number, leader, out_field, out_distance, in_field, in_depth, marked, leads}
use Rattle.evidence.specs.Rules.{implies, any, nearer, chain_field, goes_out, comes_in, falls, rule1, rule2, rule3, rule4, rule5, rule6, rule7, lowest}
use Rattle.names.proofs.BoolLaws.{and_left, and_right, and_true, and3, and4, or_cases, or_true}
use Rattle.names.proofs.CountLaws.{every_at, every_intro}
use Rattle.evidence.proofs.TestLaws.{or_first, or_else, implies_at, implies_of, same_eq, eq_same, unless_true, unless_rest, any_at, any_of}
use Rattle.chains.proofs.Marks.{same_or_not}

-- marked, as a statement: leader isn't NONE
abbrev pub Marked : List ℕ → ℕ → Type 0
Marked ev t = leader ev t ≢ none

-- the test and the statement agree
pub marked_true : (ev : List ℕ) (t : ℕ) → Marked ev t → marked ev t ≡ true
marked_true ev t m = ap not (ne_eqb (leader ev t) none m)

pub marked_at : (ev : List ℕ) (t : ℕ) → marked ev t ≡ true → Marked ev t
marked_at ev t h = eqb-false (leader ev t) none (not-true (eqb (leader ev t) none) h)

pub unmarked_at : (ev : List ℕ) (t : ℕ) → marked ev t ≡ false → leader ev t ≡ none
unmarked_at ev t h = eqb-true (leader ev t) none (not-false (eqb (leader ev t) none) h)

-- what a rule asks of a marked type
when_marked : (ev : List ℕ) (t : ℕ) (b : Bool) → implies (marked ev t) b ≡ true → Marked ev t → b ≡ true
when_marked ev t b h m = implies_at (marked ev t) b h (marked_true ev t m)

-- two tests that agree are of facts that imply each other
pub eqb_agree : (a b c d : ℕ) → eqb a b ≡ eqb c d → (a ≡ b) ↔ (c ≡ d)
eqb_agree a b c d h = (λ e. eqb-true c d (sym h ∙ eq-eqb a b e), λ e. eqb-true a b (h ∙ eq-eqb c d e))

-- and the other way
pub agree_eqb : (a b c d : ℕ) → (a ≡ b) ↔ (c ≡ d) → eqb a b ≡ eqb c d
agree_eqb a b c d h =
    ⊎_elim
    (λ e. eq-eqb a b e ∙ sym (eq-eqb c d (h.0 e)))
    (λ n. ne_eqb a b n ∙ sym (ne_eqb c d (λ e. n (h.1 e))))
    (same_or_not a b)

module _ (g : Graph) where
  -- the test for a chain field and the statement agree
  pub chain_at : (t f : ℕ) → chain_field g t f ≡ true → Chain g t f (g.next f)
  chain_at t f h =
      let r = and3 (leb (g.start t) f) (ltb f (g.stop t)) (ltb (g.next f) g.types) h in
      record {
        low = leb-true (g.start t) f r.0;
        high = ltb-true f (g.stop t) r.1;
        leads = refl;
        type = ltb-true (g.next f) g.types r.2;
      }

  pub chain_true : {t f u : ℕ} → Chain g t f u → chain_field g t f ≡ true
  chain_true {t} {f} {u} c =
      let l : g.next f < g.types = rw c.leads c.type in
      and_true (and_true (le-leb (g.start t) f c.low) (lt-ltb f (g.stop t) c.high)) (lt-ltb (g.next f) g.types l)

  module _ (ev : List ℕ) (t : ℕ) where
    -- rule 5 of a field f
    pub record Out (f : ℕ) : Type 0 where
      pub field : Chain g t f (g.next f)
      pub same : leader ev (g.next f) ≡ leader ev t
      pub closer : leader ev t ≢ t → out_distance ev (g.next f) + 1 ≡ out_distance ev t

    -- rule 6 of a field f
    pub record In (f : ℕ) : Type 0 where
      pub owner : ℕ
      pub row : owner < g.types
      pub field : Chain g owner f t
      pub same : leader ev owner ≡ leader ev t
      pub closer : in_depth ev owner + 1 ≡ in_depth ev t

    -- rule 7 of a type u that a chain field leads to
    pub record Lower (u : ℕ) : Type 0 where
      pub most : number ev u ≤ number ev t
      pub strict : leader ev t ≡ none → number ev u < number ev t

    -- rule 5's test and the statement agree
    pub out_at : (f : ℕ) → goes_out g ev t f ≡ true → Out f
    out_at f h =
        let r = and_right (chain_field g t f) _ h in
        record {
          field = chain_at t f (and_left (chain_field g t f) _ h);
          same = eqb-true (leader ev (g.next f)) (leader ev t) (and_left (eqb (leader ev (g.next f)) (leader ev t)) _ r);
          closer = λ n.
              ⊎_elim
              (λ e. absurd (n (eqb-true (leader ev t) t e)))
              (λ e. eqb-true (out_distance ev (g.next f) + 1) (out_distance ev t) e)
              (or_cases (leads ev t) _ (and_right (eqb (leader ev (g.next f)) (leader ev t)) _ r));
        }

    pub out_true : (f : ℕ) → Out f → goes_out g ev t f ≡ true
    out_true f o =
        and_true (chain_true o.field)
        (and_true (eq-eqb _ _ o.same)
        (or_else (leads ev t) _ (λ e. eq-eqb _ _ (o.closer (eqb-false (leader ev t) t e)))))

    -- rule 6's test and the statement agree
    pub in_at : (f : ℕ) → any (comes_in g ev t f) g.types ≡ true → In f
    in_at f h =
        let (s, l, e) = any_at (comes_in g ev t f) g.types h in
        let r = and3 (chain_field g s f) (eqb (g.next f) t) (nearer ev t s) e in
        record {
          owner = s;
          row = l;
          field = subst (Chain g s f) (eqb-true (g.next f) t r.1) (chain_at s f r.0);
          same = eqb-true (leader ev s) (leader ev t) (and_left (eqb (leader ev s) (leader ev t)) _ r.2);
          closer = eqb-true (in_depth ev s + 1) (in_depth ev t) (and_right (eqb (leader ev s) (leader ev t)) _ r.2);
        }

    pub in_true : (f : ℕ) → In f → any (comes_in g ev t f) g.types ≡ true
    in_true f i =
        any_of (comes_in g ev t f) g.types i.owner i.row
        (and_true (and_true (chain_true i.field) (eq-eqb _ _ i.field.leads)) (and_true (eq-eqb _ _ i.same) (eq-eqb _ _ i.closer)))

    -- row t keeps the seven rules
    pub record Kept (kind5 : Bool) : Type 0 where
      pub number_low : number ev t < g.types
      pub leader_low : Marked ev t → leader ev t < g.types
      pub plain : leader ev t ≡ none → (out_field ev t ≡ none) × (out_distance ev t ≡ none) × (in_field ev t ≡ none) × (in_depth ev t ≡ none)
      pub input : Marked ev t → kind5 ≡ true
      pub led : Marked ev t → leader ev (leader ev t) ≡ leader ev t
      pub distance : Marked ev t → (out_distance ev t ≡ 0) ↔ (leader ev t ≡ t)
      pub depth : Marked ev t → (in_depth ev t ≡ 0) ↔ (leader ev t ≡ t)
      pub out : Marked ev t → Out (out_field ev t)
      pub in_none : Marked ev t → leader ev t ≡ t → in_field ev t ≡ none
      pub in_some : Marked ev t → leader ev t ≢ t → In (in_field ev t)
      pub lower : (f u : ℕ) → Chain g t f u → Lower u

    -- rule 7's test and the statement agree
    lower_at : rule7 g ev t ≡ true → (f u : ℕ) → Chain g t f u → Lower u
    unfolding rule7
    lower_at h f u c =
        let l : g.next f < g.types = rw c.leads c.type in
        let e = implies_at (ltb (g.next f) g.types) _ (every_at (falls g ev t) (g.start t) (g.stop t) f h c.low c.high) (lt-ltb (g.next f) g.types l) in
        subst Lower c.leads
        (record {
          most = leb-true (number ev (g.next f)) (number ev t) (and_left (leb (number ev (g.next f)) (number ev t)) _ e);
          strict = λ n.
              ⊎_elim
              (λ m. absurd (marked_at ev t m n))
              (λ l. ltb-true (number ev (g.next f)) (number ev t) l)
              (or_cases (marked ev t) _ (and_right (leb (number ev (g.next f)) (number ev t)) _ e));
        })

    lower_true : ((f u : ℕ) → Chain g t f u → Lower u) → rule7 g ev t ≡ true
    unfolding rule7
    lower_true h =
        every_intro (falls g ev t) (g.start t) (g.stop t)
        (λ f a b. implies_of (ltb (g.next f) g.types) _
        (λ e. let k = h f (g.next f) (record { low = a; high = b; leads = refl; type = ltb-true _ _ e }) in
        and_true (le-leb _ _ k.most) (or_else (marked ev t) _ (λ m. lt-ltb _ _ (k.strict (eqb-true (leader ev t) none (not-false _ m)))))))

    -- rule 2's test gives the four words
    kept_plain : rule2 ev t ≡ true → leader ev t ≡ none → (out_field ev t ≡ none) × (out_distance ev t ≡ none) × (in_field ev t ≡ none) × (in_depth ev t ≡ none)
    unfolding rule2
    kept_plain h n =
        let r = ⊎_elim (λ m. absurd (marked_at ev t m n)) (λ e. e) (or_cases (marked ev t) _ h) in
        let q = and4 (eqb (out_field ev t) none) (eqb (out_distance ev t) none) (eqb (in_field ev t) none) (eqb (in_depth ev t) none) r in
        (eqb-true _ _ q.0, eqb-true _ _ q.1, eqb-true _ _ q.2, eqb-true _ _ q.3)

  module _ (input : ℕ → Bool) (ev : List ℕ) (t : ℕ) where
    pub kept : lowest g input ev t ≡ 0 → Kept ev t (input t)
    unfolding lowest rule1 rule3 rule4 rule5 rule6
    kept h =
        let h₂ = unless_rest (rule1 ev t g.types) 0 _ h in
        let h₃ = unless_rest (rule2 ev t) 1 _ h₂ in
        let h₄ = unless_rest (rule3 ev t (input t)) 2 _ h₃ in
        let h₅ = unless_rest (rule4 ev t) 3 _ h₄ in
        let h₆ = unless_rest (rule5 g ev t) 4 _ h₅ in
        let h₇ = unless_rest (rule6 g ev t) 5 _ h₆ in
        let e₁ = unless_true (rule1 ev t g.types) 0 _ h in
        let e₃ = when_marked ev t _ (unless_true (rule3 ev t (input t)) 2 _ h₃) in
        let e₄ = when_marked ev t _ (unless_true (rule4 ev t) 3 _ h₄) in
        let e₆ = when_marked ev t _ (unless_true (rule6 g ev t) 5 _ h₆) in
        record {
          number_low = ltb-true (number ev t) g.types (and_left (ltb (number ev t) g.types) _ e₁);
          leader_low = λ m.
              ⊎_elim (λ l. ltb-true (leader ev t) g.types l) (λ n. absurd (m (eqb-true _ _ n)))
              (or_cases (ltb (leader ev t) g.types) _ (and_right (ltb (number ev t) g.types) _ e₁));
          plain = kept_plain ev t (unless_true (rule2 ev t) 1 _ h₂);
          input = λ m. and_left (input t) _ (e₃ m);
          led = λ m. eqb-true _ _ (and_right (input t) _ (e₃ m));
          distance = λ m. eqb_agree (out_distance ev t) 0 (leader ev t) t (same_eq _ _ (and_left (beq (eqb (out_distance ev t) 0) (leads ev t)) _ (e₄ m)));
          depth = λ m. eqb_agree (in_depth ev t) 0 (leader ev t) t (same_eq _ _ (and_right (beq (eqb (out_distance ev t) 0) (leads ev t)) _ (e₄ m)));
          out = λ m. out_at ev t (out_field ev t) (when_marked ev t _ (unless_true (rule5 g ev t) 4 _ h₅) m);
          in_none = λ m e. eqb-true _ _ (implies_at (leads ev t) _ (and_left (implies (leads ev t) (eqb (in_field ev t) none)) _ (e₆ m)) (eq-eqb _ _ e));
          in_some = λ m n.
              in_at ev t (in_field ev t)
              (⊎_elim (λ e. absurd (n (eqb-true _ _ e))) (λ e. e)
              (or_cases (leads ev t) _ (and_right (implies (leads ev t) (eqb (in_field ev t) none)) _ (e₆ m))));
          lower = lower_at ev t (unless_true (rule7 g ev t) 6 _ h₇);
        }

    -- and a row that keeps them all breaks none
    pub keeps : Kept ev t (input t) → lowest g input ev t ≡ 0
    unfolding lowest rule1 rule2 rule3 rule4 rule5 rule6
    keeps k =
        let e₁ : rule1 ev t g.types ≡ true =
        and_true (lt-ltb _ _ k.number_low)
        (⊎_elim (λ e. or_true (ltb (leader ev t) g.types) _ (eq-eqb (leader ev t) none e)) (λ m. or_first _ _ (lt-ltb _ _ (k.leader_low m)))
        (same_or_not (leader ev t) none)) in
        let e₂ : rule2 ev t ≡ true =
        or_else (marked ev t) _
        (λ m. let p = k.plain (eqb-true (leader ev t) none (not-false _ m)) in
        and_true (and_true (and_true (eq-eqb _ _ p.0) (eq-eqb _ _ p.1)) (eq-eqb _ _ p.2)) (eq-eqb _ _ p.3)) in
        let e₃ : rule3 ev t (input t) ≡ true =
        implies_of (marked ev t) _ (λ m. and_true (k.input (marked_at ev t m)) (eq-eqb _ _ (k.led (marked_at ev t m)))) in
        let e₄ : rule4 ev t ≡ true =
        implies_of (marked ev t) _
        (λ m. and_true (eq_same _ _ (agree_eqb _ _ _ _ (k.distance (marked_at ev t m)))) (eq_same _ _ (agree_eqb _ _ _ _ (k.depth (marked_at ev t m))))) in
        let e₅ : rule5 g ev t ≡ true = implies_of (marked ev t) _ (λ m. out_true ev t (out_field ev t) (k.out (marked_at ev t m))) in
        let e₆ : rule6 g ev t ≡ true =
        implies_of (marked ev t) _
        (λ m. and_true
        (implies_of (leads ev t) _ (λ e. eq-eqb _ _ (k.in_none (marked_at ev t m) (eqb-true _ _ e))))
        (or_else (leads ev t) _ (λ e. in_true ev t (in_field ev t) (k.in_some (marked_at ev t m) (eqb-false _ _ e))))) in
        let e₇ : rule7 g ev t ≡ true = lower_true ev t k.lower in
        rw (e₁, e₂, e₃, e₄, e₅, e₆, e₇) refl
