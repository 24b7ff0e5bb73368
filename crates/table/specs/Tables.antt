-- Tables made from their rows, as examples write them: a row that gets wider changes its constructor here, and no example.
use Rattle.std.specs.Prelude.{List, ◌∷◌, [], ◌++◌, ℕ, suc}
use Rattle.table.specs.Layout.{none}

-- a row of each section: its words, in document 01's order
abbrev pub name_row : (start length : ℕ) → List ℕ
name_row start length = start ∷ length ∷ []

abbrev pub type_row : (name kind flags edges_end fields_end members_end values_end : ℕ) → List ℕ
type_row name kind flags edges_end fields_end members_end values_end = name ∷ kind ∷ flags ∷ edges_end ∷ fields_end ∷ members_end ∷ values_end ∷ []

abbrev pub edge_row : (interface : ℕ) → List ℕ
edge_row interface = interface ∷ []

abbrev pub field_row : (name type wrap arguments_end default : ℕ) → List ℕ
field_row name type wrap arguments_end default = name ∷ type ∷ wrap ∷ arguments_end ∷ default ∷ []

abbrev pub argument_row : (name type wrap default : ℕ) → List ℕ
argument_row name type wrap default = name ∷ type ∷ wrap ∷ default ∷ []

abbrev pub member_row : (name : ℕ) → List ℕ
member_row name = name ∷ []

abbrev pub value_row : (name : ℕ) → List ℕ
value_row name = name ∷ []

-- the roots: a name each, or NONE
abbrev pub roots_row : (query mutation subscription : ℕ) → List ℕ
roots_row query mutation subscription = query ∷ mutation ∷ subscription ∷ []

abbrev pub no_roots : List ℕ
no_roots = roots_row none none none

-- the rows of a table, section by section
pub record Sections : Type 0 where
  pub names : List (List ℕ)
  pub types : List (List ℕ)
  pub edges : List (List ℕ)
  pub fields : List (List ℕ)
  pub arguments : List (List ℕ)
  pub members : List (List ℕ)
  pub values : List (List ℕ)
  pub roots : List ℕ

-- no rows and no roots
abbrev pub no_rows : Sections
no_rows = record { names = []; types = []; edges = []; fields = []; arguments = []; members = []; values = []; roots = no_roots }

-- how many rows there are
abbrev pub row_count : List (List ℕ) → ℕ
row_count [] = 0
row_count (row ∷ rows) = suc (row_count rows)

-- one row after the other
abbrev pub in_row : List (List ℕ) → List ℕ
in_row [] = []
in_row (row ∷ rows) = row ++ in_row rows

-- the counts, in the header's order
abbrev pub header : Sections → List ℕ
header s =
    row_count s.names ∷ row_count s.types ∷ row_count s.edges ∷ row_count s.fields ∷ row_count s.arguments ∷ row_count s.members ∷ row_count s.values ∷ []

-- the words of a table: the counts, the sections and the roots
abbrev pub table_of : Sections → List ℕ
table_of s =
    header s ++ in_row s.names ++ in_row s.types ++ in_row s.edges ++ in_row s.fields ++ in_row s.arguments ++ in_row s.members ++ in_row s.values ++ s.roots
