-- Why one look finds what the plain search finds: each row that is noted takes the cells from the first n rows to the first n + 1.
use mathlib.Core.Path.{◌≡◌, refl, sym, ap, ◌∙◌}
use mathlib.Core.Bool.{Bool, true, false}
use mathlib.Core.Logic.{⊎_elim}
use mathlib.Core.List.{List}
use Prim.Native.Nat.{ℕ, zero, suc, ◌+◌, ◌≤◌, ◌<◌}
use native.Mathlib.Omega.{arith}
use lib.Dec.{ltb, eqb}
use lib.ListN.{length, get_or, set, replicate, length-set, length-replicate, get_or-replicate, get_or-eq_default}
use lib.Seq.{get_or-set_same, get_or-set_other}
use borrow.Author.Tests.{lt-ltb, le-ltb, ltb-true, ltb-false, eq-eqb, ne_eqb, eqb-true, eqb-false}
use Rattle.names.proofs.BoolLaws.{decide, below_or_from}
use Rattle.std.specs.Prelude.{None}
use Rattle.table.specs.declared.layout.Layout.{Layout}
use Rattle.table.specs.Layout.{most_names, name_count, type_count, type_name}
use Rattle.rows.specs.Readable.{SoundRows}
use Rattle.rows.specs.Search.{find}
use Rattle.rows.specs.Types.{type_named, found_at}
use Rattle.rows.specs.Index.{cell_of, row_told, Tells, noted, Indexed}
use Rattle.rows.proofs.FindLaws.{find_kept, find_last, find_past}
use Rattle.rows.proofs.FoundTypes.{found_at_lem, found_nothing}

-- a row is noted where none is noted yet
pub noted_new : (cells : List ℕ) (name row : ℕ) → get_or cells name 0 ≡ 0 → noted cells name row ≡ set cells name (suc row)
unfolding noted
noted_new cells name row e = rw (eq-eqb (get_or cells name 0) 0 e)

pub noted_kept : (cells : List ℕ) (name row : ℕ) → (get_or cells name 0 ≡ 0 → ⊥) → noted cells name row ≡ cells
unfolding noted
noted_kept cells name row e = rw (ne_eqb (get_or cells name 0) 0 e)

pub length_noted : (cells : List ℕ) (name row : ℕ) → length (noted cells name row) ≡ length cells
length_noted cells name row =
    ⊎_elim (λ d. ap length (noted_new cells name row (eqb-true _ _ d)) ∙ length-set cells name (suc row))
    (λ d. ap length (noted_kept cells name row (eqb-false _ _ d)))
    (decide (eqb (get_or cells name 0) 0))

-- the cell of a row that was found, and of none
pub cell_found : (r n : ℕ) → r < n → cell_of r n ≡ suc r
unfolding cell_of
cell_found r n h = rw (lt-ltb r n h)

pub cell_nothing : (r n : ℕ) → n ≤ r → cell_of r n ≡ 0
unfolding cell_of
cell_nothing r n h = rw (le-ltb r n h)

-- and back
pub row_told_cell : (r n : ℕ) → row_told (cell_of r n) ≡ found_at r n
row_told_cell r n =
    ⊎_elim (λ b. let h = ltb-true r n b in rw (cell_found r n h) (sym (found_at_lem r n h)))
    (λ b. let h = ltb-false r n b in rw (cell_nothing r n h) (sym (found_nothing r n h)))
    (decide (ltb r n))

module _ (name : ℕ → ℕ) where
  -- row i has the name k
  abbrev has : ℕ → ℕ → Bool
  has k i = eqb (name i) k

  -- before the first row every cell is 0
  pub tells_none : (cells : List ℕ) → ((k : ℕ) → get_or cells k 0 ≡ 0) → Tells name 0 cells
  tells_none cells z k = z k ∙ sym (cell_nothing _ 0 (omega arith))

  -- one row more: the cell of another name stays as it is
  cell_other : (k n : ℕ) → has k n ≡ false → cell_of (find (has k) 0 (suc n)) (suc n) ≡ cell_of (find (has k) 0 n) n
  cell_other k n d =
      ⊎_elim
      (λ b. let h : find (has k) 0 n < 0 + n = omega (arith, ltb-true (find (has k) 0 n) n b) in
      let e = find_kept (has k) n 0 h in
      let c : cell_of (find (has k) 0 n) (suc n) ≡ suc (find (has k) 0 n) = cell_found _ _ (omega arith) in
      ap (λ (x : ℕ). cell_of x (suc n)) e ∙ c ∙ sym (cell_found _ n (omega arith)))
      (λ b. let h : 0 + n ≤ find (has k) 0 n = omega (arith, ltb-false (find (has k) 0 n) n b) in
      let z : 0 + n ≡ n = omega arith in
      let e : find (has k) 0 (suc n) ≡ suc (0 + n) = find_past (has k) n 0 h (rw z d) in
      cell_nothing _ (suc n) (omega arith) ∙ sym (cell_nothing _ n (omega arith)))
      (decide (ltb (find (has k) 0 n) n))

  -- and that of its own name where a row is noted already
  cell_kept : (k n c : ℕ) → suc c ≡ cell_of (find (has k) 0 n) n → cell_of (find (has k) 0 (suc n)) (suc n) ≡ cell_of (find (has k) 0 n) n
  cell_kept k n c s =
      ⊎_elim
      (λ b. let h : find (has k) 0 n < 0 + n = omega (arith, ltb-true (find (has k) 0 n) n b) in
      let e = find_kept (has k) n 0 h in
      let c : cell_of (find (has k) 0 n) (suc n) ≡ suc (find (has k) 0 n) = cell_found _ _ (omega arith) in
      ap (λ (x : ℕ). cell_of x (suc n)) e ∙ c ∙ sym (cell_found _ n (omega arith)))
      (λ b. let q : suc c ≡ 0 = s ∙ cell_nothing _ n (ltb-false _ n b) in absurd (omega arith))
      (decide (ltb (find (has k) 0 n) n))

  -- and else tells the row
  cell_new : (k n : ℕ) → 0 ≡ cell_of (find (has k) 0 n) n → has k n ≡ true → cell_of (find (has k) 0 (suc n)) (suc n) ≡ suc n
  cell_new k n s d =
      ⊎_elim
      (λ b. let q : 0 ≡ suc (find (has k) 0 n) = s ∙ cell_found _ n (ltb-true _ n b) in absurd (omega arith))
      (λ b. let h : 0 + n ≤ find (has k) 0 n = omega (arith, ltb-false (find (has k) 0 n) n b) in
      let z : 0 + n ≡ n = omega arith in
      let e : find (has k) 0 (suc n) ≡ 0 + n = find_last (has k) n 0 h (rw z d) in
      let f : find (has k) 0 (suc n) ≡ n = omega arith in
      ap (λ (x : ℕ). cell_of x (suc n)) f ∙ cell_found n (suc n) (omega arith))
      (decide (ltb (find (has k) 0 n) n))

  module _ (cells : List ℕ) (n : ℕ) (t : Tells name n cells) (b : name n < length cells) where
    -- the cell of the row's own name, with a row noted or none
    own_kept : (c : ℕ) → get_or cells (name n) 0 ≡ suc c → (k : ℕ) → get_or cells k 0 ≡ cell_of (find (has k) 0 (suc n)) (suc n)
    own_kept c e k =
        ⊎_elim
        (λ d. let q : name n ≡ k = eqb-true _ _ d in
        let f : suc c ≡ cell_of (find (has k) 0 n) n = sym (rw q at e) ∙ t k in
        t k ∙ sym (cell_kept k n c f))
        (λ d. t k ∙ sym (cell_other k n d))
        (decide (has k n))

    own_new : get_or cells (name n) 0 ≡ 0 → (k : ℕ) → get_or (set cells (name n) (suc n)) k 0 ≡ cell_of (find (has k) 0 (suc n)) (suc n)
    own_new e k =
        ⊎_elim
        (λ d. let q : name n ≡ k = eqb-true _ _ d in
        let f : 0 ≡ cell_of (find (has k) 0 n) n = sym (rw q at e) ∙ t k in
        let g : get_or (set cells (name n) (suc n)) k 0 ≡ suc n = ap (λ (x : ℕ). get_or (set cells (name n) (suc n)) x 0) (sym q) ∙ get_or-set_same cells (name n) (suc n) 0 b in
        g ∙ sym (cell_new k n f d))
        (λ d. let q = eqb-false (name n) k d in
        get_or-set_other cells (name n) k (suc n) 0 (λ r. q (sym r)) ∙ t k ∙ sym (cell_other k n d))
        (decide (has k n))

    pub tells_more : Tells name (n + 1) (noted cells (name n) n)
    tells_more =
        let s : n + 1 ≡ suc n = omega arith in
        ⊎_elim
        (λ d. let z = eqb-true _ _ d in rw (s, noted_new cells (name n) n z) (own_new z))
        (λ d. let z = eqb-false _ _ d in
        let (c, e) = some _ z in
        rw (s, noted_kept cells (name n) n z) (own_kept c e))
        (decide (eqb (get_or cells (name n) 0) 0))
      where
        some : (m : ℕ) → (m ≡ 0 → ⊥) → (c : ℕ) × (m ≡ suc c)
        some zero f = absurd (f refl)
        some (suc c) f = (c, refl)

-- a type's name is below the most names
pub name_most : {w : List ℕ} {l : Layout} → SoundRows w l → (t : ℕ) → t < l.types → type_name w t < most_names
name_most {w} {l} s t h =
    let e : l.types ≡ type_count w = ap (λ (y : Layout). y.types) s.laid.same in
    let f : l.names ≡ name_count w = ap (λ (y : Layout). y.names) s.laid.same in
    let n = s.words.type_name_fits t (omega arith) in
    omega (arith, s.laid.names_most)

-- the types of a table; `at` is the name's number, as the code holds it
module _ {w : List ℕ} {l : Layout} {cells : List ℕ} (x : Indexed w l cells) {name at : ℕ} (same : at ≡ name) where
  told : get_or cells at 0 ≡ cell_of (type_named w name) l.types
  unfolding type_named
  told =
      let t : l.types ≡ type_count w = ap (λ (y : Layout). y.types) x.rows.laid.same in
      let e : cell_of (find (λ i. eqb (type_name w i) name) 0 l.types) l.types ≡ cell_of (find (λ i. eqb (type_name w i) name) 0 (type_count w)) l.types = ap (λ (n : ℕ). cell_of (find (λ i. eqb (type_name w i) name) 0 n) l.types) t in
      ap (λ (n : ℕ). get_or cells n 0) same ∙ x.types name ∙ e

  -- the cell tells the type, and where there is no cell there is no type
  pub type_told : row_told (get_or cells at 0) ≡ found_at (type_named w name) l.types
  type_told = ap row_told told ∙ row_told_cell _ _

  pub nothing_past : length cells ≤ at → None ≡ found_at (type_named w name) l.types
  nothing_past h = sym (ap row_told (get_or-eq_default cells 0 h)) ∙ type_told

-- in cells of 0, no row is told
pub tells_nothing : (name : ℕ → ℕ) (cells : List ℕ) → cells ≡ replicate most_names 0 → Tells name 0 cells
tells_nothing name cells e =
    tells_none name cells (λ k.
    ⊎_elim (λ b. ap (λ (c : List ℕ). get_or c k 0) e ∙ get_or-replicate most_names k 0 0 b)
    (λ h. get_or-eq_default cells 0 (omega (arith, ap length e, length-replicate {A = ℕ} most_names 0)))
    (below_or_from k most_names))
