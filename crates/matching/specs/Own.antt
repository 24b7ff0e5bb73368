-- What the rules over edges and over interface fields ask of the own edges and fields that they are handed.
use Rattle.std.specs.Prelude.{◌≡◌, List, ℕ, ◌<◌}
use Rattle.table.specs.declared.layout.Layout.{Layout}
use Rattle.rows.specs.Parts.{edges_of}
use Rattle.rows.specs.Readable.{NamePart, FieldPart}
use Rattle.lookup.specs.Cells.{FieldsHelped}

-- the edges, from row `edgesFirst` on, are all those of type t
pub record OwnEdges (w : List ℕ) (l : Layout) (t edgesFirst : ℕ) (edges : List ℕ) : Type 0 where
  pub part : NamePart l edgesFirst edges
  pub all : edges ≡ edges_of w t
  pub below : t < l.types

-- the fields, from row `fieldsFirst` on, and cells that help a search among them
pub record OwnFields (l : Layout) (fieldsFirst : ℕ) (fields cells : List ℕ) : Type 0 where
  pub part : FieldPart l fieldsFirst fields
  pub helped : FieldsHelped fields cells
