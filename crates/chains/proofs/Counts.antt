-- The rows of a first cycle, and their count, as functions of the table: every type has a first cycle or no closed chain, so there is a
-- list to name, and what it is follows from `rows_right` alone, as the rows of a type are one.
use mathlib.Core.Path.{◌≡◌, refl, sym, ap}
use mathlib.Core.Bool.{false}
use mathlib.Core.Logic.{◌⊎◌, inl, inr, ⊎_elim}
use mathlib.Core.List.{List, []}
use Prim.Native.Nat.{ℕ, ◌≤◌, ◌<◌}
use native.Mathlib.Omega.{arith}
use lib.ListN.{length}
use Rattle.names.proofs.BoolLaws.{true_false, below_or_from}
use Rattle.table.specs.Layout.{type_count}
use Rattle.links.specs.Chains.{Graph, Chain}
use Rattle.chains.specs.Cycles.{PathTo, PathTo.last, PathTo.step, FirstCycle, NoCycle}
use Rattle.links.specs.Fields.{is_input_object, chain_graph}
use Rattle.chains.specs.Answer.{CycleRows, CycleCount}
use Rattle.links.proofs.FieldLaws.{end_right}
use Rattle.chains.proofs.Order.{rows_unique, count_unique}
use Rattle.chains.proofs.Total.{decided}

-- every type of a graph has rows: those of its first cycle, or none
rows_exist : (g : Graph) (t : ℕ) → t < g.types → (fs : List ℕ) × CycleRows g t fs
rows_exist g t low = ⊎_elim (λ r. (r.0, inl r.1)) (λ n. ([], inr (n, refl))) (decided g t low)

-- a chain has a field at least
path_fields : {g : Graph} {u v : ℕ} {fs vs : List ℕ} → PathTo g u v fs vs → 1 ≤ length fs
path_fields (last c) = omega arith
path_fields (step c p) = omega arith

module _ (w : List ℕ) where
  rows_of : (t : ℕ) → (t < type_count w) ⊎ (type_count w ≤ t) → (fs : List ℕ) × (t < type_count w → CycleRows (chain_graph w) t fs)
  rows_of t (inl h) = let r = rows_exist (chain_graph w) t h in (r.0, λ _. r.1)
  rows_of t (inr h) = ([], λ l. absurd (omega arith))

  -- the rows of the first cycle of type t, if it has one
  pub cycle_rows : ℕ → List ℕ
  cycle_rows t = (rows_of t (below_or_from t (type_count w))).0

  -- the count of type t: 0 with no closed chain, else the fields of its first cycle
  pub cycle_count : ℕ → ℕ
  cycle_count t = length (cycle_rows t)

  module _ (t : ℕ) (low : t < type_count w) where
    pub rows_right : CycleRows (chain_graph w) t (cycle_rows t)
    unfolding cycle_rows
    rows_right = (rows_of t (below_or_from t (type_count w))).1 low

    pub count_right : CycleCount (chain_graph w) t (cycle_count t)
    unfolding cycle_count
    count_right = record { fields = cycle_rows t; right = rows_right; count = refl }

    pub rows_are : (fs : List ℕ) → CycleRows (chain_graph w) t fs → fs ≡ cycle_rows t
    rows_are fs r = rows_unique (chain_graph w) t fs (cycle_rows t) r rows_right

    pub count_is : (n : ℕ) → CycleCount (chain_graph w) t n → n ≡ cycle_count t
    count_is n c = count_unique (chain_graph w) t n (cycle_count t) c count_right

    -- the count of a type with a first cycle
    pub first_count : (fs : List ℕ) → FirstCycle (chain_graph w) t fs → cycle_count t ≡ length fs
    unfolding cycle_count
    first_count fs f = ap length (sym (rows_are fs (inl f)))

    -- the count is 0 exactly with no closed chain
    pub none_zero : NoCycle (chain_graph w) t → cycle_count t ≡ 0
    unfolding cycle_count
    none_zero n = ap length (sym (rows_are [] (inr (n, refl))))

    pub zero_none : cycle_count t ≡ 0 → NoCycle (chain_graph w) t
    unfolding cycle_count
    zero_none z = ⊎_elim (λ f. absurd (omega (arith, path_fields f.cycle.path))) (λ r. r.0) rows_right

  -- a type that is no input object has no chain fields, and so no closed chain
  starts_nowhere : (t f u : ℕ) → is_input_object w t ≡ false → Chain (chain_graph w) t f u → ⊥
  starts_nowhere t f u e c = true_false (end_right w t f c.low c.high).0 e

  pub other_none : (t : ℕ) → is_input_object w t ≡ false → NoCycle (chain_graph w) t
  other_none t e fs vs (last c) = starts_nowhere t _ _ e c
  other_none t e fs vs (step c p) = starts_nowhere t _ _ e c
