-- Document 01, "Chains of input objects": the chain fields of a table, and the graph that they make.
use Rattle.std.specs.Prelude.{◌≡◌, Bool, true, ◌&&◌, cond, List, ℕ, ◌≤◌, ◌<◌, eqb}
use Rattle.table.specs.Kinds.{input_object_kind}
use Rattle.table.specs.Layout.{type_count, type_name, type_kind, fields_start, fields_end, field_type, field_wrap}
use Rattle.rows.specs.Types.{type_named, defined, kind_named}
use Rattle.links.specs.Chains.{Graph}

-- the wrap of a chain field, 16: non-null, and no list
abbrev pub chain_wrap : ℕ
chain_wrap = 16

-- type t is an input object
abbrev pub is_input_object : List ℕ → ℕ → Bool
is_input_object w t = input_object_kind (type_kind w t)

-- f is a chain field of t to u: it belongs to kind 5, has wrap 16, and names a kind 5 type here
pub record ChainField (w : List ℕ) (t f u : ℕ) : Type 0 where
  pub owner : t < type_count w
  pub input : is_input_object w t ≡ true
  pub low : fields_start w t ≤ f
  pub high : f < fields_end w t
  pub wrap : field_wrap w f ≡ chain_wrap
  pub type : u < type_count w
  pub named : type_name w u ≡ field_type w f
  pub again : is_input_object w u ≡ true

-- the input object of the name, or the count of types
unfoldable pub input_object_named : List ℕ → ℕ → ℕ
input_object_named w n = cond (defined w n && input_object_kind (kind_named w n)) (type_named w n) (type_count w)

-- the type that field f leads to by its wrap and its type name, or the count of types
unfoldable pub chain_target : List ℕ → ℕ → ℕ
chain_target w f = cond (eqb (field_wrap w f) chain_wrap) (input_object_named w (field_type w f)) (type_count w)

-- where the fields of t end that may be chain fields: a type that is no input object has none
unfoldable pub chains_end : List ℕ → ℕ → ℕ
chains_end w t = cond (is_input_object w t) (fields_end w t) (fields_start w t)

-- the graph of a table, whose chains are its chain fields (`chain_field_lem` and `field_chain` of proofs/FieldLaws)
abbrev pub chain_graph : List ℕ → Graph
chain_graph w = record { types = type_count w; start = fields_start w; stop = chains_end w; next = chain_target w }
