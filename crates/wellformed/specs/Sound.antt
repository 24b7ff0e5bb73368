-- What a well-formed table is good for: the facts that follow from refusal 0, in the form in which proofs use them. Layers above ask for
-- `Sound text w`; the theorem that refusal 0 gives it, and the other way round, is in proofs/SoundLaws.
use Rattle.std.specs.Prelude.{◌≡◌, true, List, ◌≢◌, ℕ, ◌≤◌, ◌<◌, length}
use Rattle.names.specs.Wraps.{good_wrap}
use Rattle.table.specs.Kinds.{kinds, owns_edges, owns_fields, owns_members, owns_values, takes_arguments, takes_default}
use Rattle.table.specs.Layout.{root_words, most_text, none, layout_of, Laid, name_count, type_count, edge_count, field_count, argument_count, member_count, value_count, type_name, type_kind, type_flag, edges_start, edges_end, fields_start, fields_end, members_start, members_end, values_start, values_end, edge_name, field_name, field_type, field_wrap, arguments_start, arguments_end, field_default, argument_name, argument_type, argument_wrap, argument_default, member_name, value_name, root, edges_ends, fields_ends, members_ends, values_ends, arguments_ends, type_names, edge_names, field_names, member_names, value_names}
-- what names say (SoundNames), ends (Runs) and names with no repeat (Apart) is handed on from where the tests stand
pub use Rattle.name_section.specs.NameSection.{SoundNames}
pub use Rattle.columns.specs.Columns.{Runs, Apart}

-- every word is in its range
pub record SoundWords (w : List ℕ) : Type 0 where
  pub type_name_fits : (t : ℕ) → t < type_count w → type_name w t < name_count w
  pub type_kind_fits : (t : ℕ) → t < type_count w → type_kind w t < kinds
  pub type_flag_fits : (t : ℕ) → t < type_count w → type_flag w t < 2
  pub field_name_fits : (f : ℕ) → f < field_count w → field_name w f < name_count w
  pub field_type_fits : (f : ℕ) → f < field_count w → field_type w f < name_count w
  pub field_wrap_fits : (f : ℕ) → f < field_count w → good_wrap (field_wrap w f) ≡ true
  pub field_default_fits : (f : ℕ) → f < field_count w → field_default w f < 2
  pub argument_name_fits : (a : ℕ) → a < argument_count w → argument_name w a < name_count w
  pub argument_type_fits : (a : ℕ) → a < argument_count w → argument_type w a < name_count w
  pub argument_wrap_fits : (a : ℕ) → a < argument_count w → good_wrap (argument_wrap w a) ≡ true
  pub argument_default_fits : (a : ℕ) → a < argument_count w → argument_default w a < 2
  pub edge_name_fits : (e : ℕ) → e < edge_count w → edge_name w e < name_count w
  pub member_name_fits : (m : ℕ) → m < member_count w → member_name w m < name_count w
  pub value_name_fits : (v : ℕ) → v < value_count w → value_name w v < name_count w
  pub root_name_fits : (op : ℕ) → op < root_words → root w op ≢ none → root w op < name_count w

-- the runs of each section
pub record SoundRuns (w : List ℕ) : Type 0 where
  pub edges : Runs w (edges_ends (layout_of w)) (edge_count w)
  pub fields : Runs w (fields_ends (layout_of w)) (field_count w)
  pub members : Runs w (members_ends (layout_of w)) (member_count w)
  pub values : Runs w (values_ends (layout_of w)) (value_count w)
  pub arguments : Runs w (arguments_ends (layout_of w)) (argument_count w)

-- type t is of a kind that may own the rows that it has, and its fields the arguments and defaults that they have
pub record SoundOwner (w : List ℕ) (t : ℕ) : Type 0 where
  pub edges : edges_start w t < edges_end w t → owns_edges (type_kind w t) ≡ true
  pub fields : fields_start w t < fields_end w t → owns_fields (type_kind w t) ≡ true
  pub members : members_start w t < members_end w t → owns_members (type_kind w t) ≡ true
  pub values : values_start w t < values_end w t → owns_values (type_kind w t) ≡ true
  pub arguments : (f : ℕ) → fields_start w t ≤ f → f < fields_end w t → arguments_start w f < arguments_end w f → takes_arguments (type_kind w t) ≡ true
  pub defaults : (f : ℕ) → fields_start w t ≤ f → f < fields_end w t → field_default w f ≡ 1 → takes_default (type_kind w t) ≡ true

-- no repeats: type names, and within type t the names of each list
pub record SoundApart (w : List ℕ) : Type 0 where
  pub types : Apart w (type_names (layout_of w)) 0 (type_count w)
  pub edges : (t : ℕ) → t < type_count w → Apart w (edge_names (layout_of w)) (edges_start w t) (edges_end w t)
  pub fields : (t : ℕ) → t < type_count w → Apart w (field_names (layout_of w)) (fields_start w t) (fields_end w t)
  pub members : (t : ℕ) → t < type_count w → Apart w (member_names (layout_of w)) (members_start w t) (members_end w t)
  pub values : (t : ℕ) → t < type_count w → Apart w (value_names (layout_of w)) (values_start w t) (values_end w t)

-- a well-formed table
pub record Sound (text w : List ℕ) : Type 0 where
  pub laid : Laid w (layout_of w)
  pub text_most : length text ≤ most_text
  pub names : SoundNames text w
  pub words : SoundWords w
  pub runs : SoundRuns w
  pub owner : (t : ℕ) → t < type_count w → SoundOwner w t
  pub apart : SoundApart w
