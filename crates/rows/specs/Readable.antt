-- What the layers above ask of a table and of the parts that they are handed.
use Rattle.std.specs.Prelude.{List, ℕ, ◌+◌, ◌≤◌, ◌<◌, length, get_or}
use Rattle.table.specs.declared.layout.Layout.{Layout}
use Rattle.table.specs.Layout.{Laid, most_listed, most_arguments}
use Rattle.wellformed.specs.WellFormed.{name_end}
use Rattle.wellformed.specs.Sound.{SoundWords, SoundRuns}
use Rattle.rows.specs.Parts.{field_rows, field_name_in, field_type_in, argument_rows, argument_name_in, argument_type_in}

-- the words of a well-formed table, with its layout: each in its range, and ends that cut their sections
pub record SoundRows (w : List ℕ) (l : Layout) : Type 0 where
  pub laid : Laid w l
  pub words : SoundWords w
  pub runs : SoundRuns w

-- each name lies in the text
abbrev pub Spelled : List ℕ → List ℕ → Layout → Type 0
Spelled text w l = (n : ℕ) → n < l.names → name_end w l n ≤ length text

-- a table with its text, as the rules are lent them
pub record Readable (text w : List ℕ) (l : Layout) : Type 0 where
  pub sound : SoundRows w l
  pub spelled : Spelled text w l

-- a part of names, of edges, members or values, that starts at row `first` of its section
pub record NamePart (l : Layout) (first : ℕ) (p : List ℕ) : Type 0 where
  pub names : (i : ℕ) → i < length p → get_or p i 0 < l.names
  pub within : first + length p ≤ most_listed

-- a part of fields that starts at row `first` of its section
pub record FieldPart (l : Layout) (first : ℕ) (p : List ℕ) : Type 0 where
  pub names : (i : ℕ) → i < field_rows p → field_name_in p i < l.names
  pub types : (i : ℕ) → i < field_rows p → field_type_in p i < l.names
  pub within : first + field_rows p ≤ l.fields

-- a part of arguments that starts at row `first` of its section
pub record ArgumentPart (l : Layout) (first : ℕ) (p : List ℕ) : Type 0 where
  pub names : (i : ℕ) → i < argument_rows p → argument_name_in p i < l.names
  pub types : (i : ℕ) → i < argument_rows p → argument_type_in p i < l.names
  pub within : first + argument_rows p ≤ most_arguments
