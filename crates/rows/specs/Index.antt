-- A row by its name in one look: a cell for each name number. The plain search (`find`) says what a cell holds.
use Rattle.std.specs.Prelude.{◌≡◌, refl, cond, List, ◌∷◌, [], Option, Some, None, ℕ, zero, suc, get_or, set, ltb, eqb}
use Rattle.table.specs.declared.layout.Layout.{Layout}
use Rattle.table.specs.declared.numbers.TypeRow.{TypeRow}
use Rattle.table.specs.Layout.{type_name}
use Rattle.rows.specs.Search.{find}
use Rattle.rows.specs.Readable.{SoundRows, Readable}

-- the cell of a search that ends at row r of n: the row's number plus 1, or 0 where no row was found
unfoldable pub cell_of : ℕ → ℕ → ℕ
cell_of r n = cond (ltb r n) (suc r) 0

-- and back: the row that a cell tells
abbrev pub row_told : ℕ → Option TypeRow
row_told zero = None
row_told (suc row) = Some (record { 0 = row })

-- the cells tell for every name number the first of n rows that has it; `name i` is the name of row i. A cell that there is not reads as 0.
abbrev pub Tells : (ℕ → ℕ) → ℕ → List ℕ → Type 0
Tells name n cells = (k : ℕ) → get_or cells k 0 ≡ cell_of (find (λ i. eqb (name i) k) 0 n) n

-- a row noted in the cell of its name, where none is noted yet
unfoldable pub noted : List ℕ → ℕ → ℕ → List ℕ
noted cells name row = cond (eqb (get_or cells name 0) 0) (set cells name (suc row)) cells

-- rows 0 and 1 have the names 2 and 0, and row 2 has name 2 again, which row 0 keeps
three : noted (noted (noted (0 ∷ 0 ∷ 0 ∷ []) 2 0) 0 1) 2 2 ≡ 2 ∷ 0 ∷ 1 ∷ []
unfolding noted
three = refl

-- a table whose types can be looked up by their names: its rows are sound, and the cells tell the types
pub record Indexed (w : List ℕ) (l : Layout) (cells : List ℕ) : Type 0 where
  pub rows : SoundRows w l
  pub types : Tells (type_name w) l.types cells

-- and in which names can be read: what a rule asks of its table
pub record Legible (text w : List ℕ) (l : Layout) (cells : List ℕ) : Type 0 where
  pub readable : Readable text w l
  pub types : Tells (type_name w) l.types cells
