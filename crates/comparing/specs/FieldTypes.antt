-- Field types, of an interface against the own: layer by layer from the outside, then the names (the Rust's
-- is_valid_implementation_field_type and is_subtype).
use Rattle.std.specs.Prelude.{Bool, false, not, ◌&&◌, ◌||◌, List, ℕ, zero, suc, eqb}
use Rattle.names.specs.Wraps.{layers, non_null}
use Rattle.table.specs.Kinds.{object, interface, union, owns_edges}
use Rattle.table.specs.Layout.{type_kind}
use Rattle.rows.specs.Search.{contains}
use Rattle.rows.specs.Types.{defined, type_named}
use Rattle.rows.specs.Parts.{edges_of, members_of}

-- a non-null interface layer needs a non-null own layer
abbrev pub layer_fits : (wrap own i : ℕ) → Bool
layer_fits wrap own i = not (non_null wrap i) || non_null own i

-- from layer i on, with so many list layers left on each side: list meets list, name meets name
unfoldable pub layers_fit : (wrap own i left ownLeft : ℕ) → Bool
layers_fit wrap own i zero zero = layer_fits wrap own i
layers_fit wrap own i zero (suc ownLeft) = false
layers_fit wrap own i (suc left) zero = false
layers_fit wrap own i (suc left) (suc ownLeft) = layer_fits wrap own i && layers_fit wrap own (suc i) left ownLeft

unfoldable pub wraps_fit : (wrap own : ℕ) → Bool
wraps_fit wrap own = layers_fit wrap own 0 (layers wrap) (layers own)

-- type row `ty` is an interface of the name n, and type row `own` an object or interface with that edge
abbrev pub has_edge : (w : List ℕ) (ty n own : ℕ) → Bool
has_edge w ty n own = eqb (type_kind w ty) interface && (owns_edges (type_kind w own) && contains (edges_of w own) n)

-- the interface's type n is an interface, and the own type m an object or interface with that edge
unfoldable pub implements : (w : List ℕ) (n m : ℕ) → Bool
implements w n m = has_edge w (type_named w n) n (type_named w m)

-- type row `ty` is a union, and type row `own` an object of the name m among its members
abbrev pub has_object_member : (w : List ℕ) (ty own m : ℕ) → Bool
has_object_member w ty own m = eqb (type_kind w ty) union && (eqb (type_kind w own) object && contains (members_of w ty) m)

-- the interface's type n is a union, and the own type m an object member
unfoldable pub object_member : (w : List ℕ) (n m : ℕ) → Bool
object_member w n m = has_object_member w (type_named w n) (type_named w m) m

-- names match if equal, or by an edge, or by a union
unfoldable pub names_match : (w : List ℕ) (n m : ℕ) → Bool
names_match w n m = eqb n m || (defined w n && (defined w m && (implements w n m || object_member w n m)))

-- the own type, m in its wrap, does for the interface's, n in its wrap
unfoldable pub field_type_fits : (w : List ℕ) (n wrap m own : ℕ) → Bool
field_type_fits w n wrap m own = wraps_fit wrap own && names_match w n m
