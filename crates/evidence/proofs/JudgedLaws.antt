-- The answer: it passes exactly if every row keeps every rule, and else names the first row that breaks one.
use mathlib.Core.Path.{◌≡◌, refl, ap, ◌∙◌}
use mathlib.Core.Logic.{◌⊎◌, inl, inr, ⊎_elim, ◌≢◌, ◌↔◌}
use mathlib.Core.List.{List}
use mathlib.Core.Bool.{Bool}
use Prim.Native.Nat.{ℕ, suc, zero, ◌+◌, ◌-◌, ◌<◌}
use native.Mathlib.Omega.{arith}
use Rattle.std.specs.Prelude.{Some, None}
use Rattle.evidence.specs.declared.judged.Broken.{Broken}
use Rattle.links.specs.Chains.{Graph}
use Rattle.evidence.specs.Rules.{lowest, Passes}
use Rattle.evidence.specs.Judged.{Judged, judged_row, rule_broken, or_next, judged_to, judged, FirstBroken}
use Rattle.evidence.proofs.TestLaws.{last_or_below}

-- where two answers in a row pass, or do not
next_pass : (v w : Judged) → or_next v w ≡ None → (v ≡ None) × (w ≡ None)
next_pass None w h = (refl, h)
next_pass (Some b) w h = let z : ◌≡◌ {A = ℕ} 0 1 = cc in absurd (omega arith)

next_broken : (v w : Judged) {b : Broken} → or_next v w ≡ Some b → (v ≡ Some b) ⊎ ((v ≡ None) × (w ≡ Some b))
next_broken None w h = inr (refl, h)
next_broken (Some b) w h = inl h

-- the answer for one row
row_pass : (t k : ℕ) → judged_row t k ≡ None → k ≡ 0
row_pass t zero h = refl
row_pass t (suc k) h = let z : ◌≡◌ {A = ℕ} 0 1 = cc in absurd (omega arith)

row_broken : (n r : ℕ) {b : Broken} → judged_row n r ≡ Some b → (n ≡ b.row.0) × (r ≡ b.rule) × (r ≢ 0)
row_broken n zero h = let z : ◌≡◌ {A = ℕ} 0 1 = cc in absurd (omega arith)
row_broken n (suc r) {b} h =
    let e : record { row = record { 0 = n }; rule = suc r } ≡ b = cc in
    (ap (λ (x : Broken). x.row.0) e, ap (λ (x : Broken). x.rule) e, λ e. omega arith)

row_at : (t k : ℕ) → k ≢ 0 → judged_row t k ≡ Some (record { row = record { 0 = t }; rule = k })
row_at t zero n = absurd (n refl)
row_at t (suc k) n = refl

-- the lowest rule that is broken, read back
pub a_rule_broken : (k : ℕ) {i : ℕ} → rule_broken k ≡ Some i → (k ≡ i) × (i ≢ 0)
a_rule_broken zero p = let z : ◌≡◌ {A = ℕ} 0 1 = cc in absurd (omega arith)
a_rule_broken (suc k) {i} p = let e : suc k ≡ i = cc in (e, λ z. absurd (omega arith))

pub no_rule_broken : (k : ℕ) → rule_broken k ≡ None → k ≡ 0
no_rule_broken zero p = refl
no_rule_broken (suc k) p = let z : ◌≡◌ {A = ℕ} 0 1 = cc in absurd (omega arith)

module _ (g : Graph) (input : ℕ → Bool) (ev : List ℕ) where
  -- the rows below n pass exactly if each breaks no rule
  pub pass_below : (n : ℕ) → judged_to g input ev n ≡ None → (s : ℕ) → s < n → lowest g input ev s ≡ 0
  unfolding judged_to
  pass_below zero h s l = absurd (omega arith)
  pass_below (suc n) h s l =
      let (p, q) = next_pass (judged_to g input ev n) (judged_row n (lowest g input ev n)) h in
      ⊎_elim (λ (e : s ≡ n). rw e (row_pass n (lowest g input ev n) q)) (λ l'. pass_below n p s l') (last_or_below l)

  pub below_pass : (n : ℕ) → ((s : ℕ) → s < n → lowest g input ev s ≡ 0) → judged_to g input ev n ≡ None
  unfolding judged_to
  below_pass zero h = refl
  below_pass (suc n) h = rw (below_pass n (λ s l. h s (omega arith)), h n (omega arith)) refl

  -- the first that breaks one is named
  broken_below : (n : ℕ) {b : Broken} → judged_to g input ev n ≡ Some b → FirstBroken g input ev n b.row.0 b.rule
  unfolding judged_to
  broken_below zero h = let z : ◌≡◌ {A = ℕ} 0 1 = cc in absurd (omega arith)
  broken_below (suc n) {b} h =
      ⊎_elim
      (λ e. let r = broken_below n e in record { row = omega (arith, r.row); rule = r.rule; breaks = r.breaks; first = r.first })
      (λ (p, q).
      let (a, k, c) = row_broken n (lowest g input ev n) q in
      record { row = omega arith; rule = rw (← a) k; breaks = λ e. c (k ∙ e); first = rw (← a) (pass_below n p) })
      (next_broken (judged_to g input ev n) (judged_row n (lowest g input ev n)) h)

  -- the rows behind a broken one change nothing
  pub below_broken : (d n t k : ℕ) → t + suc d ≡ n → lowest g input ev t ≡ k → k ≢ 0 → ((s : ℕ) → s < t → lowest g input ev s ≡ 0) → judged_to g input ev n ≡ Some (record { row = record { 0 = t }; rule = k })
  unfolding judged_to
  below_broken d zero t k e r b f = absurd (omega arith)
  below_broken zero (suc n) t k e r b f = let q : n ≡ t = omega arith in rw (q, below_pass t f, r) (row_at t k b)
  below_broken (suc d) (suc n) t k e r b f = rw (below_broken d n t k (omega arith) r b f) refl

  -- the answer is to pass exactly if the table passes
  pub passes_judged : Passes g input ev ↔ (judged g input ev ≡ None)
  unfolding judged
  passes_judged = (below_pass g.types, pass_below g.types)

  -- and else it is the first broken row with its lowest rule
  pub broken_judged : (t k : ℕ) → FirstBroken g input ev g.types t k ↔ (judged g input ev ≡ Some (record { row = record { 0 = t }; rule = k }))
  unfolding judged
  broken_judged t k = (
    λ b. let l = b.row in below_broken (g.types - suc t) g.types t k (omega arith) b.rule b.breaks b.first,
    broken_below g.types,
  )
