-- Laws of the passes that choose the fields: the first one found is the lowest, and one is found.
use mathlib.Core.Path.{◌≡◌, refl, sym, ◌∙◌}
use mathlib.Core.Logic.{◌⊎◌, inl, inr, ⊎_elim, ◌≢◌}
use mathlib.Core.List.{List}
use mathlib.Core.Bool.{true, false}
use Prim.Native.Nat.{ℕ, suc, zero, ◌+◌, ◌-◌, ◌≤◌, ◌<◌}
use native.Mathlib.Omega.{arith}
use Rattle.links.specs.Chains.{Graph, Chain}
use Rattle.table.specs.Layout.{none}
use Rattle.evidence.specs.declared.row.EvidenceColumn.TheVariants.{OutField, InField}
use Rattle.evidence.specs.Words.{leader}
use Rattle.evidence.specs.Rules.{nearer, chain_field, goes_out, comes_in}
use Rattle.evidence.proofs.ChainLaws.{Rising, comes_not}
use Rattle.names.proofs.BoolLaws.{true_false, and3, below_or_from}
use Rattle.evidence.specs.Canonical.{Least}
use Rattle.producer.specs.Produced.{IfMarked, IfMarked.unmarked, IfMarked.marked, WordIs, AllRight, measures, InFrom, InFrom.nothing, InFrom.lowest, OnlyColumn}
use Rattle.evidence.proofs.TestLaws.{any_at, any_of}
use Rattle.evidence.proofs.Kept.{chain_at, out_true, in_true}
use Rattle.evidence.proofs.Exists.{Half, Nothing, out_some, in_some}
use Rattle.producer.proofs.PassLaws.{led_on, led_off, led_kept, word_as}
use Rattle.evidence.proofs.Counts.{least_as}
use Rattle.evidence.proofs.Unique.{Agree, agree_back, goes_same, comes_same}
use Rattle.chains.proofs.Marks.{same_or_not}

-- the word of an unmarked type, and of a marked one
pub word_none : {ev : List ℕ} {t v : ℕ} {P : ℕ → Type 0} → IfMarked ev t P v → leader ev t ≡ none → v ≡ none
word_none (unmarked n) e = refl
word_none (marked n p) e = absurd (n e)

pub word_some : {ev : List ℕ} {t v : ℕ} {P : ℕ → Type 0} → IfMarked ev t P v → leader ev t ≢ none → P v
word_some (unmarked e) n = absurd (n e)
word_some (marked m p) n = p

-- a number below which nothing has P is the least
least_at : {P : ℕ → Type 0} {f : ℕ} → P f → ((h : ℕ) → h < f → P h → ⊥) → Least P f
least_at {P} {f} p below = record { holds = p; least = λ m q. ⊎_elim (λ l. absurd (below m l q)) (λ (l : f ≤ m). l) (below_or_from m f) }

module _ (g : Graph) (small : g.types ≤ none) (ev : List ℕ) (measured : AllRight g measures ev) where
  -- what `Exists` asks of a table
  pub measured_known : (t : ℕ) → t < g.types → Half g ev t ⊎ Nothing g ev t
  measured_known t l =
      ⊎_elim
      (λ (e : leader ev t ≡ none).
      inr
      (record {
        not_closed = led_off g small (measured.0 t l) e;
        leader_none = e;
        distance_none = word_none (measured.1.0 t l) e;
        depth_none = word_none (measured.1.1.0 t l) e;
      }))
      (λ n.
      let (c, m) = led_on g (measured.0 t l) n in
      inl
      (record {
        closed = c;
        leader_word = m;
        distance_word = word_some (measured.1.0 t l) n;
        depth_word = word_some (measured.1.1.0 t l) n;
      }))
      (same_or_not (leader ev t) none)

  -- of a marked row
  half : (t : ℕ) → t < g.types → leader ev t ≢ none → Half g ev t
  half t l n = ⊎_elim (λ h. h) (λ k. absurd (n k.leader_none)) (measured_known t l)

  -- some field is found
  pub out_never : (t f : ℕ) → t < g.types → leader ev t ≢ none → g.stop t ≤ f → ((h : ℕ) → h < f → goes_out g ev t h ≡ true → ⊥) → ⊥
  out_never t f l n b below =
      let (h, o) = out_some g ev measured_known t (half t l n) in
      let k = o.field.high in
      below h (omega arith) (out_true g ev t h o)

  -- and an in field
  pub in_never : (t : ℕ) → t < g.types → leader ev t ≢ none → leader ev t ≢ t
      → ((s : ℕ) → s < g.types → (f : ℕ) → comes_in g ev t f s ≡ true → ⊥) → ⊥
  in_never t l n d never =
      let (f, i) = in_some g ev measured_known t (half t l n) d in
      let (s, b, e) = any_at (comes_in g ev t f) g.types (in_true g ev t f i) in
      never s b f e

module _ (g : Graph) (ev : List ℕ) where
  -- the first that fits
  pub out_first : (t f : ℕ) → leader ev t ≢ none → goes_out g ev t f ≡ true → ((h : ℕ) → h < f → goes_out g ev t h ≡ true → ⊥) → WordIs g OutField ev t f
  out_first t f n e below = marked n (least_at e below)

  -- a field by which t is entered is a chain field
  comes_chain : (t f s : ℕ) → comes_in g ev t f s ≡ true → Chain g s f (g.next f)
  comes_chain t f s e = chain_at g s f (and3 (chain_field g s f) _ _ e).0

  -- the first that fits, of one type
  pub from_first : (t s f : ℕ) → f ≢ none → comes_in g ev t f s ≡ true → ((h : ℕ) → h < f → comes_in g ev t h s ≡ true → ⊥) → InFrom g ev t s f
  from_first t s f n e below = lowest n (least_at e below)

  -- or none does
  pub from_none : (t s f : ℕ) → g.stop s ≤ f → ((h : ℕ) → h < f → comes_in g ev t h s ≡ true → ⊥) → InFrom g ev t s none
  from_none t s f b below = nothing (λ h e. let k = (comes_chain t h s e).high in below h (omega arith) e)

  -- what the answer says
  pub from_not : {t s r : ℕ} → InFrom g ev t s r → r ≡ none → (f : ℕ) → comes_in g ev t f s ≡ true → ⊥
  from_not (nothing x) e = x
  from_not (lowest n l) e = absurd (n e)

  from_least : {t s r : ℕ} → InFrom g ev t s r → r ≢ none → Least (λ f. comes_in g ev t f s ≡ true) r
  from_least (nothing x) n = absurd (n refl)
  from_least (lowest m l) n = l

  -- and so it is where s is not nearer
  pub from_far : (t s : ℕ) → nearer ev t s ≡ false → InFrom g ev t s none
  from_far t s h = nothing (λ f e. true_false e (comes_not g ev t f s h))

  -- fields of a later type come later
  later : Rising g → (d s : ℕ) → suc (s + d) < g.types → g.stop s ≤ g.start (suc (s + d))
  later rising zero s l = let e : s ≡ s + 0 = omega arith in rw (← e) (rising.ends s (omega arith))
  later rising (suc d) s l =
      let k = later rising d s (omega arith) in
      let b = rising.rises (suc (s + d)) (omega arith) in
      let q : s + suc d ≡ suc (s + d) = omega arith in
      rw q (omega arith)

  -- a leader has none
  pub in_leads : (t : ℕ) → leader ev t ≢ none → leader ev t ≡ t → WordIs g InField ev t none
  in_leads t n e = marked n (λ _. refl, λ d. absurd (d e))

  -- the first that fits, of all types
  pub in_first : Rising g → (t s r : ℕ) → s < g.types → leader ev t ≢ none → leader ev t ≢ t
      → ((q : ℕ) → q < s → (f : ℕ) → comes_in g ev t f q ≡ true → ⊥) → InFrom g ev t s r → r ≢ none → WordIs g InField ev t r
  in_first rising t s r l n d before i m =
      let k : Least (λ f. comes_in g ev t f s ≡ true) r = from_least i m in
      let high = (comes_chain t r s k.holds).high in
      marked n (
        λ e. absurd (d e),
        λ _.
            record {
              holds = any_of (comes_in g ev t r) g.types s l k.holds;
              least = λ f a.
                  let (q, b, e) = any_at (comes_in g ev t f) g.types a in
                  ⊎_elim
                  (λ (x : q < s). absurd (before q x f e))
                  (λ x.
                  ⊎_elim
                  (λ (y : q ≡ s). k.least f (rw y at e))
                  (λ y.
                  let low = (comes_chain t f q e).low in
                  let z : q ≡ suc (s + (q - suc s)) = omega arith in
                  let w = later rising (q - suc s) s (omega arith) in
                  let w' : g.stop s ≤ g.start q = rw z w in
                  omega arith)
                  (same_or_not q s))
                  (below_or_from q s);
            },
      )

-- the fields that fit depend on leaders, distances and depths alone
module _ (g : Graph) {W X : List ℕ} (a : Agree g.types X W) (t v : ℕ) (l : t < g.types) where
  pub out_as : WordIs g OutField X t v → WordIs g OutField W t v
  out_as = word_as (a.leaders t l) (least_as (goes_same g a t l) (goes_same g (agree_back a) t l))

  pub in_as : WordIs g InField X t v → WordIs g InField W t v
  in_as =
      let e = a.leaders t l in
      word_as e
      (λ p. (
        λ q. p.0 (e ∙ q),
        λ q. least_as (comes_same g a t l) (comes_same g (agree_back a) t l) (p.1 (λ x. q (sym e ∙ x))),
      ))

-- what a pass over a field's column leaves as it was
module _ (g : Graph) {c n : ℕ} {W X : List ℕ} (k : OnlyColumn c n W X) (c₁ : 1 ≢ c) (c₃ : 3 ≢ c) (c₅ : 5 ≢ c) where
  -- leaders, distances and depths
  pub column_agree : Agree g.types X W
  column_agree =
      record {
        leaders = λ t l. k.others t 1 (omega arith) c₁;
        distances = λ t l. k.others t 3 (omega arith) c₃;
        depths = λ t l. k.others t 5 (omega arith) c₅;
      }

  -- so what is right stays right
  pub measured_kept : AllRight g measures W → AllRight g measures X
  measured_kept m = (
    led_kept g k c₁ m.0,
    (
      λ t l.
          let e = k.others t 1 (omega arith) c₁ in
          rw (k.others t 3 (omega arith) c₃) (word_as (sym e) (λ p. rw e p) (m.1.0 t l)),
      (
        λ t l.
            let e = k.others t 1 (omega arith) c₁ in
            rw (k.others t 5 (omega arith) c₅) (word_as (sym e) (λ p. rw e p) (m.1.1.0 t l)),
        tt,
      ),
    ),
  )

  -- and what is asked stays the same
  pub out_kept : (t v : ℕ) → t < g.types → WordIs g OutField X t v → WordIs g OutField W t v
  out_kept t v l = out_as g column_agree t v l

  pub in_kept : (t v : ℕ) → t < g.types → WordIs g InField X t v → WordIs g InField W t v
  in_kept t v l = in_as g column_agree t v l
