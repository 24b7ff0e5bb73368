-- Field types: what "layer by layer from the outside" comes to, for every number of list layers, and the boards of document 01, for every table.
use mathlib.Core.Path.{◌≡◌, refl, sym}
use mathlib.Core.Bool.{Bool, true, false, true≢false, not, ◌&&◌, ◌||◌}
use mathlib.Core.Logic.{◌↔◌, ◌⊎◌, inl, inr, ⊎_elim}
use mathlib.Core.List.{List}
use Prim.Native.Nat.{ℕ, zero, suc, ◌+◌, ◌*◌, ◌^◌, ◌≤◌, ◌<◌}
use native.Mathlib.Omega.{arith}
use lib.Dec.{ltb}
use borrow.Author.Tests.{eq-eqb}
use Rattle.names.specs.Wraps.{layers, bits, good_wrap, non_null}
use Rattle.names.proofs.BoolLaws.{and_left, and_right, and_true}
use Rattle.comparing.specs.FieldTypes.{layer_fits, layers_fit, wraps_fit, names_match, field_type_fits}

-- a wrap of k list layers plus 16 times a number gives both back, and is good exactly if the number is below 2^(k+1)
pub read_back : (k b : ℕ) → k < 16 → (layers (k + 16 * b) ≡ k) × (bits (k + 16 * b) ≡ b) × (good_wrap (k + 16 * b) ≡ ltb b (2 ^ (k + 1)))
unfolding good_wrap layers bits
read_back k b l =
    let same : layers (k + 16 * b) ≡ k = omega arith in
    let number : bits (k + 16 * b) ≡ b = omega arith in
    (same, number, rw (same, number))

-- a non-null interface layer has a non-null own layer
abbrev pub Fits : (wrap own i : ℕ) → Type 0
Fits wrap own i = non_null wrap i ≡ true → non_null own i ≡ true

fits_at : (a b : Bool) → (not a || b) ≡ true → a ≡ true → b ≡ true
fits_at true true e p = refl
fits_at true false e p = absurd (true≢false (sym e))
fits_at false b e p = absurd (true≢false (sym p))

fits_of : (a b : Bool) → (a ≡ true → b ≡ true) → (not a || b) ≡ true
fits_of true true h = refl
fits_of true false h = h refl
fits_of false b h = refl

first_or_later : (i j : ℕ) → i ≤ j → (j ≡ i) ⊎ (i < j)
first_or_later zero zero l = inl refl
first_or_later zero (suc j) l = inr (omega arith)
first_or_later (suc i) zero l = absurd (omega arith)
first_or_later (suc i) (suc j) l = ⊎_elim (λ (e : j ≡ i). inl (omega arith)) (λ (k : i < j). inr (omega arith)) (first_or_later i j (omega arith))

module _ (wrap own : ℕ) where
  -- from layer i on: as many layers on both sides, and each of these layers fits
  forth : (i n m : ℕ) → layers_fit wrap own i n m ≡ true → (n ≡ m) × ((j : ℕ) → i ≤ j → j ≤ i + n → Fits wrap own j)
  unfolding layers_fit
  forth i zero zero e = (refl, λ j l h. let q : j ≡ i = omega arith in rw q (fits_at (non_null wrap i) (non_null own i) e))
  forth i zero (suc m) e = absurd (true≢false (sym e))
  forth i (suc n) zero e = absurd (true≢false (sym e))
  forth i (suc n) (suc m) e =
      let here = and_left (layer_fits wrap own i) (layers_fit wrap own (suc i) n m) e in
      let rest = forth (suc i) n m (and_right (layer_fits wrap own i) (layers_fit wrap own (suc i) n m) e) in
      let same : n ≡ m = rest.0 in
      (omega arith, λ j l h. ⊎_elim (λ (q : j ≡ i). rw q (fits_at (non_null wrap i) (non_null own i) here)) (λ (k : i < j). rest.1 j (omega arith) (omega arith)) (first_or_later i j l))

  back : (i n : ℕ) → ((j : ℕ) → i ≤ j → j ≤ i + n → Fits wrap own j) → layers_fit wrap own i n n ≡ true
  unfolding layers_fit
  back i zero h = fits_of (non_null wrap i) (non_null own i) (h i (omega arith) (omega arith))
  back i (suc n) h =
      and_true (fits_of (non_null wrap i) (non_null own i) (h i (omega arith) (omega arith))) (back (suc i) n (λ j l k. h j (omega arith) (omega arith)))

  -- two wraps fit exactly if they have as many list layers, and each layer from the outermost to the named type fits
  pub wraps_fit_lem : (wraps_fit wrap own ≡ true) ↔ ((layers wrap ≡ layers own) × ((j : ℕ) → j ≤ layers wrap → Fits wrap own j))
  unfolding wraps_fit
  wraps_fit_lem = (
    λ e. let r = forth 0 (layers wrap) (layers own) e in (r.0, λ j l. r.1 j (omega arith) (omega arith)),
    λ h. same_layers (layers own) h.0 (λ j l k. h.1 j (omega arith)),
  )
    where
      same_layers : (m : ℕ) → layers wrap ≡ m → ((j : ℕ) → 0 ≤ j → j ≤ 0 + layers wrap → Fits wrap own j) → layers_fit wrap own 0 (layers wrap) m ≡ true
      same_layers m e h = rw (← e) (back 0 (layers wrap) h)

and_name : (b : Bool) → (b && true) ≡ b
and_name true = refl
and_name false = refl

-- where both sides have the same name the wraps alone decide, whatever the table says of that name
pub same_name : (w : List ℕ) (n wrap own : ℕ) → field_type_fits w n wrap n own ≡ wraps_fit wrap own
unfolding field_type_fits names_match
same_name w n wrap own = rw (eq-eqb n n refl) (and_name (wraps_fit wrap own))

wraps : ℕ → ℕ → Bool
unfolding wraps_fit layers_fit layers bits non_null
wraps wrap own = wraps_fit wrap own

-- document 01's boards, "Field types, interface against own, same name", for every table and every name
pub boards : (w : List ℕ) (n : ℕ) → (field_type_fits w n 16 n 0 ≡ false) × (field_type_fits w n 0 n 16 ≡ true) × (field_type_fits w n 1 n 49 ≡ true)
    × (field_type_fits w n 33 n 17 ≡ false) × (field_type_fits w n 17 n 1 ≡ false) × (field_type_fits w n 0 n 1 ≡ false)
unfolding wraps
boards w n = (rw same_name, rw same_name, rw same_name, rw same_name, rw same_name, rw same_name)
