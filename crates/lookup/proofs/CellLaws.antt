-- What cells say of rows: while they are noted, and when one is looked up.
use mathlib.Core.Path.{◌≡◌, refl, sym, ap, ◌∙◌}
use mathlib.Core.Logic.{◌≢◌, ⊎_elim}
use mathlib.Core.List.{List, []}
use Prim.Native.Nat.{ℕ, ◌≤◌}
use native.Mathlib.Omega.{arith}
use lib.ListN.{length, get_or, get_or-eq_default}
use Rattle.names.proofs.BoolLaws.{below_or_from}
use Rattle.table.specs.declared.layout.Layout.{Layout}
use Rattle.std.specs.Prelude.{None}
use Rattle.rows.specs.Parts.{argument_rows, argument_named, field_rows, field_named}
use Rattle.rows.specs.Found.{found_row}
use Rattle.rows.specs.Index.{cell_of, Tells}
use Rattle.rows.specs.Readable.{SoundRows, ArgumentPart, FieldPart}
use Rattle.rows.proofs.FoundRows.{found_row_lem, found_no_row}
use Rattle.rows.proofs.IndexLaws.{cell_found, cell_nothing}
use Rattle.lookup.specs.Cells.{found_cell, Helps, ArgumentsNamed, ArgumentsHelped, FieldsNamed, FieldsHelped}

-- the arguments and the fields of a sound table
pub arguments_named : {w : List ℕ} {l : Layout} → SoundRows w l → {first : ℕ} {p : List ℕ} → ArgumentPart l first p → ArgumentsNamed p
arguments_named s a = record { names = λ i h. omega (arith, a.names i h, s.laid.names_most); most = omega (arith, a.within) }

pub fields_named : {w : List ℕ} {l : Layout} → SoundRows w l → {first : ℕ} {p : List ℕ} → FieldPart l first p → FieldsNamed p
fields_named s a = record { names = λ i h. omega (arith, a.names i h, s.laid.names_most); most = omega (arith, a.within, s.laid.fields_most) }

-- `at` is the name's number, as the code holds it
module _ (cells : List ℕ) {name at : ℕ} (same : at ≡ name) where
  pub cell_named : found_cell (get_or cells at 0) ≡ found_cell (get_or cells name 0)
  cell_named = rw same refl

  pub nothing_past : length cells ≤ at → None ≡ found_cell (get_or cells name 0)
  unfolding found_cell
  nothing_past h = let z : get_or cells name 0 ≡ 0 = rw same at (get_or-eq_default cells 0 h) in rw z refl

-- the row that is told is the row of the search
cell_search : (r n : ℕ) → found_cell (cell_of r n) ≡ found_row r n
unfolding found_cell
cell_search r n =
    ⊎_elim (λ b. rw (cell_found r n b) (sym (found_row_lem r n b))) (λ b. rw (cell_nothing r n b) (sym (found_no_row r n b))) (below_or_from r n)

module _ (name : ℕ → ℕ) where
  -- cells that tell the rows help, and so do none
  pub told_helps : {n : ℕ} {cells : List ℕ} → Tells name n cells → Helps name n cells
  told_helps t = record { told = λ _. t }

  pub none_helps : (n : ℕ) → Helps name n []
  none_helps n = record { told = λ d. absurd (d refl) }

-- a look tells what the walk finds
pub argument_told : (arguments cells : List ℕ) → ArgumentsHelped arguments cells → length cells ≢ 0 → (k : ℕ)
    → found_cell (get_or cells k 0) ≡ found_row (argument_named arguments k) (argument_rows arguments)
unfolding argument_named
argument_told arguments cells h some k = ap found_cell (h.told some k) ∙ cell_search _ _

pub field_told : (fields cells : List ℕ) → FieldsHelped fields cells → length cells ≢ 0 → (k : ℕ)
    → found_cell (get_or cells k 0) ≡ found_row (field_named fields k) (field_rows fields)
unfolding field_named
field_told fields cells h some k = ap found_cell (h.told some k) ∙ cell_search _ _
