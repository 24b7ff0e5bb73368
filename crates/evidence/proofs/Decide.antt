-- What can be decided: a property of the numbers below a bound, whether a type reaches another, whether a chain of n fields leads
-- from one to another. Reaching is decided by allowing ever more types on the way: `Via k` allows those below k.
use mathlib.Core.Path.{◌≡◌, refl, sym, subst}
use mathlib.Core.Logic.{◌⊎◌, inl, inr, ⊎_elim, ◌≢◌}
use mathlib.Core.List.{List}
use mathlib.Core.Bool.{Bool, true, false, true≢false}
use Prim.Native.Nat.{ℕ, suc, zero, ◌+◌, ◌≤◌, ◌<◌}
use native.Mathlib.Omega.{arith}
use Rattle.links.specs.Chains.{Graph, Chain}
use Rattle.chains.specs.Cycles.{PathTo, PathTo.last, PathTo.step}
use Rattle.evidence.specs.Rules.{chain_field}
use Rattle.evidence.specs.Reaches.{Reaches}
use Rattle.evidence.specs.Canonical.{Count, Count.empty, Count.with, Count.without, Least, Way, Way.here, Way.more, Other, Mutual}
use Rattle.evidence.proofs.TestLaws.{last_or_below}
use Rattle.evidence.proofs.Kept.{chain_at, chain_true}
use Rattle.evidence.proofs.Marks.{reach_one, reach_join}
use Rattle.evidence.proofs.Ways.{way_zero}
use Rattle.names.proofs.BoolLaws.{below_or_from}
use Rattle.chains.proofs.Marks.{same_or_not}

-- P or not P
abbrev pub Decided : Type 0 → Type 0
Decided P = P ⊎ (P → ⊥)

-- what is decided from what is
pub both : {P Q : Type 0} → Decided P → Decided Q → Decided (P × Q)
both (inl p) (inl q) = inl (p, q)
both (inl p) (inr n) = inr (λ h. n h.1)
both (inr n) d = inr (λ h. n h.0)

pub differ : (a b : ℕ) → Decided (a ≢ b)
differ a b = ⊎_elim (λ e. inr (λ n. n e)) (λ n. inl n) (same_or_not a b)

pub is_true : (b : Bool) → Decided (b ≡ true)
is_true true = inl refl
is_true false = inr (λ e. true≢false (sym e))

pub decided_as : {P Q : Type 0} → (P → Q) → (Q → P) → Decided P → Decided Q
decided_as f b (inl p) = inl (f p)
decided_as f b (inr n) = inr (λ q. n (b q))

module _ (P : ℕ → Type 0) (decide : (k : ℕ) → Decided (P k)) where
  -- whether a number below n has the property
  pub some_below : (n : ℕ) → Decided ((k : ℕ) × (k < n) × P k)
  some_below zero = inr (λ (k, l, p). omega arith)
  some_below (suc n) =
      ⊎_elim
      (λ p. inl (n, omega arith, p))
      (λ n-not. decided_as
      (λ (k, l, p). (k, omega arith, p))
      (λ (k, l, p). ⊎_elim (λ (e : k ≡ n). absurd (n-not (subst P e p))) (λ l'. (k, l', p)) (last_or_below l))
      (some_below n))
      (decide n)

  -- the search for the least
  found : (k : ℕ) → ((i : ℕ) → i < k → P i → ⊥) → P k → (m : ℕ) × Least P m
  found k before p = (k, record { holds = p; least = λ m q. ⊎_elim (λ l. absurd (before m l q)) (λ (l : k ≤ m). l) (below_or_from m k) })

  least_from : (d k : ℕ) → ((i : ℕ) → i < k → P i → ⊥) → P (k + d) → (m : ℕ) × Least P m
  least_from zero k before p = let e : k + 0 ≡ k = omega arith in found k before (subst P e p)
  least_from (suc d) k before p =
      let e : k + suc d ≡ suc k + d = omega arith in
      ⊎_elim
      (λ q. found k before q)
      (λ n. least_from d (suc k) (λ i l. ⊎_elim (λ (e : i ≡ k). λ q. n (subst P e q)) (λ l'. before i l') (last_or_below l)) (subst P e p))
      (decide k)

  -- where some number has the property, there is a least
  pub least_of : (n : ℕ) → P n → (m : ℕ) × Least P m
  least_of n p = let e : n ≡ 0 + n = omega arith in least_from n 0 (λ i l q. omega arith) (subst P e p)

  -- a count exists
  pub count_of : (k : ℕ) → (n : ℕ) × Count P k n
  count_of zero = (0, empty)
  count_of (suc k) =
      let (n, c) = count_of k in
      ⊎_elim (λ p. (suc n, with p c)) (λ q. (n, without q c)) (decide k)

module _ (g : Graph) where
  -- whether f is a chain field from t to u
  chain_decided : (t f u : ℕ) → Decided (Chain g t f u)
  chain_decided t f u =
      decided_as
      (λ (e, q). subst (Chain g t f) q (chain_at g t f e))
      (λ c. (chain_true g c, c.leads))
      (both (is_true (chain_field g t f)) (same_or_not (g.next f) u))

  -- whether some chain field of t leads to a type with Q
  field_decided : (t : ℕ) (Q : ℕ → Type 0) → ((u : ℕ) → Decided (Q u)) → Decided ((f : ℕ) × (u : ℕ) × Chain g t f u × Q u)
  field_decided t Q d =
      decided_as
      (λ (f, l, h). (f, g.next f, h.0, h.1))
      (λ (f, u, c, q). (f, c.high, (subst (Chain g t f) (sym c.leads) c, subst Q (sym c.leads) q)))
      (some_below (λ (f : ℕ). Chain g t f (g.next f) × Q (g.next f)) (λ f. both (chain_decided t f (g.next f)) (d (g.next f))) (g.stop t))

  -- a chain from t to u with only types below k on the way
  data Via : ℕ → ℕ → ℕ → Type 0 where
    one : {t f u : ℕ} → Chain g t f u → Via 0 t u
    round : {k t u : ℕ} → Via k t u → Via (suc k) t u
    through : {k t u : ℕ} → Via k t k → Via k k u → Via (suc k) t u

  -- what such a chain is
  via_field : {t u : ℕ} → Via 0 t u → (f : ℕ) × (v : ℕ) × Chain g t f v × (v ≡ u)
  via_field {u} (one {f} c) = (f, u, c, refl)

  via_split : {k t u : ℕ} → Via (suc k) t u → Via k t u ⊎ (Via k t k × Via k k u)
  via_split (round a) = inl a
  via_split (through a b) = inr (a, b)

  -- it is decided, by recursion on k
  via_decided : (k t u : ℕ) → Decided (Via k t u)
  via_decided zero t u =
      decided_as (λ (f, v, c, e). one (subst (Chain g t f) e c)) via_field (field_decided t (λ (v : ℕ). v ≡ u) (λ v. same_or_not v u))
  via_decided (suc k) t u =
      ⊎_elim
      (λ v. inl (round v))
      (λ n. decided_as (λ q. through q.0 q.1) (λ q. ⊎_elim (λ v. absurd (n v)) (λ b. b) (via_split q)) (both (via_decided k t k) (via_decided k k u)))
      (via_decided k t u)

  -- it reaches
  via_reaches : {k t u : ℕ} → Via k t u → Reaches g t u
  via_reaches (one c) = reach_one g c
  via_reaches (round v) = via_reaches v
  via_reaches (through v w) = reach_join g (via_reaches v) (via_reaches w)

  -- one field is such a chain for every k
  via_one : (k : ℕ) {t f u : ℕ} → Chain g t f u → Via k t u
  via_one zero c = one c
  via_one (suc k) c = round (via_one k c)

  -- the way to k, and from it, needs k itself at its end alone
  to_k : {k t u : ℕ} → k ≡ u → Via (suc k) t u → Via k t k
  to_k {k} {t} e (round v) = subst (Via k t) (sym e) v
  to_k e (through v w) = v

  from_k : {k t u : ℕ} → k ≡ t → Via (suc k) t u → Via k k u
  from_k {k} {u} e (round v) = subst (λ (x : ℕ). Via k x u) (sym e) v
  from_k e (through v w) = w

  -- two chains that meet in a type below k, where such chains are known to join
  join_below : {k t v u : ℕ} → ((a b : ℕ) → Via k a v → Via k v b → Via k a b) → Via (suc k) t v → Via (suc k) v u → Via (suc k) t u
  join_below {k} {t} {v} {u} j (round a) (round b) = round (j t u a b)
  join_below {k} {t} j (round a) (through b d) = through (j t k a b) d
  join_below {k} {u} j (through a c) (round b) = through a (j k u c b)
  join_below j (through a c) (through b d) = through a d

  -- chains that meet in a type below k join
  via_join : (k : ℕ) {t v u : ℕ} → v < k → Via k t v → Via k v u → Via k t u
  via_join zero l a b = absurd (omega arith)
  via_join (suc k) {t} {v} {u} l a b =
      ⊎_elim
      (λ (e : v ≡ k). through (to_k (sym e) a) (from_k (sym e) b))
      (λ l'. join_below (λ x y p q. via_join k l' p q) a b)
      (last_or_below l)

  -- every chain has only types on its way
  path_via : {u t : ℕ} {fs vs : List ℕ} → PathTo g u t fs vs → Via g.types t u
  path_via (last c) = via_one g.types c
  path_via (step c p) = via_join g.types c.type (via_one g.types c) (path_via p)

  -- the theorems
  pub reaches_decided : (t u : ℕ) → Decided (Reaches g t u)
  reaches_decided t u = decided_as via_reaches (λ r. path_via r.2) (via_decided g.types t u)

  pub mutual_decided : (t u : ℕ) → Decided (Mutual g t u)
  mutual_decided t u = both (reaches_decided t u) (reaches_decided u t)

  pub other_decided : (t u : ℕ) → Decided (Other g t u)
  other_decided t u = both (differ u t) (reaches_decided t u)

  -- the first field of a chain
  pub way_first : {t u n : ℕ} → Way g u (suc n) t → (f : ℕ) × (v : ℕ) × Chain g t f v × Way g u n v
  way_first (more {f} {v} c w) = (f, v, c, w)

  pub way_decided : (u n t : ℕ) → Decided (Way g u n t)
  way_decided u zero t = decided_as (λ e. subst (λ (x : ℕ). Way g u 0 x) (sym e) here) (way_zero g) (same_or_not t u)
  way_decided u (suc n) t =
      decided_as (λ (f, v, c, w). more c w) way_first (field_decided t (λ (v : ℕ). Way g u n v) (λ v. way_decided u n v))
