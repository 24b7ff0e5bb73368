-- Two tests of kinds before a third that reads many rows: where both hold the third decides, and where one fails nothing does.
use mathlib.Core.Path.{◌≡◌, refl}
use mathlib.Core.Bool.{Bool, true, false, ◌&&◌}
use mathlib.Core.List.{List}
use Prim.Native.Nat.{ℕ}
use lib.Dec.{eqb}
use Rattle.names.proofs.BoolLaws.{true_false}
use Rattle.table.specs.Kinds.{object, interface, union, owns_edges}
use Rattle.table.specs.Layout.{type_kind}
use Rattle.rows.specs.Search.{contains}
use Rattle.rows.specs.Parts.{edges_of, members_of}
use Rattle.comparing.specs.FieldTypes.{has_edge, has_object_member}

both_hold : (a b s : Bool) → a && b ≡ true → s ≡ a && (b && s)
both_hold true true s h = refl
both_hold true false s h = absurd (true_false h refl)
both_hold false b s h = absurd (true_false h refl)

one_fails : (a b s : Bool) → a && b ≡ false → false ≡ a && (b && s)
one_fails true true s h = absurd (true_false refl h)
one_fails true false s h = refl
one_fails false b s h = refl

module _ (w : List ℕ) (ty own n : ℕ) where
  -- an interface, and an object or interface
  abbrev edge_kinds : Bool
  edge_kinds = eqb (type_kind w ty) interface && owns_edges (type_kind w own)

  pub edges_decide : edge_kinds ≡ true → contains (edges_of w own) n ≡ has_edge w ty n own
  edges_decide = both_hold (eqb (type_kind w ty) interface) (owns_edges (type_kind w own)) (contains (edges_of w own) n)

  pub no_edge : edge_kinds ≡ false → false ≡ has_edge w ty n own
  no_edge = one_fails (eqb (type_kind w ty) interface) (owns_edges (type_kind w own)) (contains (edges_of w own) n)

  -- a union, and an object
  abbrev member_kinds : Bool
  member_kinds = eqb (type_kind w ty) union && eqb (type_kind w own) object

  pub members_decide : member_kinds ≡ true → contains (members_of w ty) n ≡ has_object_member w ty own n
  members_decide = both_hold (eqb (type_kind w ty) union) (eqb (type_kind w own) object) (contains (members_of w ty) n)

  pub no_member : member_kinds ≡ false → false ≡ has_object_member w ty own n
  no_member = one_fails (eqb (type_kind w ty) union) (eqb (type_kind w own) object) (contains (members_of w ty) n)
