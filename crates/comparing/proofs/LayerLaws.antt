-- Two wraps, one layer at a time.
use mathlib.Core.Path.{◌≡◌, refl}
use mathlib.Core.Bool.{true, false}
use Prim.Native.Nat.{ℕ, zero, suc, ◌+◌, ◌-◌}
use native.Mathlib.Numerals.{add-one}
use native.Mathlib.Omega.{arith}
use Rattle.comparing.specs.FieldTypes.{layer_fits, layers_fit}

module _ (wrap own i : ℕ) where
  -- name meets name
  pub fit_names : (left ownLeft : ℕ) → left ≡ 0 → ownLeft ≡ 0 → layers_fit wrap own i left ownLeft ≡ layer_fits wrap own i
  unfolding layers_fit
  fit_names zero zero p q = refl
  fit_names zero (suc m) p q = absurd (omega arith)
  fit_names (suc n) m p q = absurd (omega arith)

  -- name meets list
  pub fit_list : (left ownLeft : ℕ) → left ≡ 0 → (ownLeft ≡ 0 → ⊥) → layers_fit wrap own i left ownLeft ≡ false
  unfolding layers_fit
  fit_list zero zero p q = absurd (q refl)
  fit_list zero (suc m) p q = refl
  fit_list (suc n) m p q = absurd (omega arith)

  -- list meets name
  pub fit_name : (left ownLeft : ℕ) → (left ≡ 0 → ⊥) → ownLeft ≡ 0 → layers_fit wrap own i left ownLeft ≡ false
  unfolding layers_fit
  fit_name zero m p q = absurd (p refl)
  fit_name (suc n) zero p q = refl
  fit_name (suc n) (suc m) p q = absurd (omega arith)

  suc_less : (n : ℕ) → suc n - 1 ≡ n
  suc_less n = omega arith

  -- list meets list, and the layer fits
  pub fit_next : (left ownLeft : ℕ) → (left ≡ 0 → ⊥) → (ownLeft ≡ 0 → ⊥) → layer_fits wrap own i ≡ true → layers_fit wrap own i left ownLeft ≡ layers_fit wrap own (i + 1) (left - 1) (ownLeft - 1)
  unfolding layers_fit
  fit_next zero m p q e = absurd (p refl)
  fit_next (suc n) zero p q e = absurd (q refl)
  fit_next (suc n) (suc m) p q e = rw (e, suc_less n, suc_less m, add-one) refl

  -- or it doesn't
  pub fit_stop : (left ownLeft : ℕ) → (left ≡ 0 → ⊥) → (ownLeft ≡ 0 → ⊥) → layer_fits wrap own i ≡ false → layers_fit wrap own i left ownLeft ≡ false
  unfolding layers_fit
  fit_stop zero m p q e = absurd (p refl)
  fit_stop (suc n) zero p q e = absurd (q refl)
  fit_stop (suc n) (suc m) p q e = rw e refl
