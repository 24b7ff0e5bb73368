-- What the header, the limits and the length of a table give: the limits one by one, and that it is laid out as the layout says.
use mathlib.Core.Path.{◌≡◌, refl, sym, ◌∙◌}
use mathlib.Core.Bool.{true, ◌&&◌}
use mathlib.Core.List.{List}
use Prim.Native.Nat.{ℕ, ◌+◌, ◌≤◌}
use lib.ListN.{length}
use lib.Dec.{leb, eqb}
use borrow.Author.Tests.{leb-true, eqb-true}
use Rattle.table.specs.declared.layout.Layout.{Layout}
use Rattle.table.specs.Layout.{root_words, most_names, most_types, most_edges, most_fields, most_arguments, most_members, most_values, most_text, layout_of, Laid, types_at, edges_at, fields_at, arguments_at, members_at, values_at, roots_at}
use Rattle.wellformed.specs.WellFormed.{in_limits, right_length}
use Rattle.names.proofs.BoolLaws.{and_left, and_right}
use Rattle.table.proofs.LayoutLaws.{roots_end}

-- the length that is tested is document 01's formula
pub length_right : (w : List ℕ) → eqb (length w) (roots_at w + root_words) ≡ right_length w (layout_of w)
unfolding right_length
length_right w = rw (roots_end w) refl

-- the limits, one by one
pub record Limits (text : List ℕ) (l : Layout) : Type 0 where
  pub names : l.names ≤ most_names
  pub types : l.types ≤ most_types
  pub edges : l.edges ≤ most_edges
  pub fields : l.fields ≤ most_fields
  pub arguments : l.arguments ≤ most_arguments
  pub members : l.members ≤ most_members
  pub values : l.values ≤ most_values
  pub bytes : length text ≤ most_text

pub limits : (text : List ℕ) (l : Layout) → in_limits text l ≡ true → Limits text l
unfolding in_limits
limits text l e =
    let n = leb l.names most_names in
    let t = leb l.types most_types in
    let i = leb l.edges most_edges in
    let f = leb l.fields most_fields in
    let a = leb l.arguments most_arguments in
    let m = leb l.members most_members in
    let v = leb l.values most_values in
    let e₇ = and_left (n && t && i && f && a && m && v) (leb (length text) most_text) e in
    let e₆ = and_left (n && t && i && f && a && m) v e₇ in
    let e₅ = and_left (n && t && i && f && a) m e₆ in
    let e₄ = and_left (n && t && i && f) a e₅ in
    let e₃ = and_left (n && t && i) f e₄ in
    let e₂ = and_left (n && t) i e₃ in
    record {
      names = leb-true _ _ (and_left n t e₂);
      types = leb-true _ _ (and_right n t e₂);
      edges = leb-true _ _ (and_right (n && t) i e₃);
      fields = leb-true _ _ (and_right (n && t && i) f e₄);
      arguments = leb-true _ _ (and_right (n && t && i && f) a e₅);
      members = leb-true _ _ (and_right (n && t && i && f && a) m e₆);
      values = leb-true _ _ (and_right (n && t && i && f && a && m) v e₇);
      bytes = leb-true _ _ (and_right (n && t && i && f && a && m && v) (leb (length text) most_text) e);
    }

pub laid : (text w : List ℕ) → in_limits text (layout_of w) ≡ true → right_length w (layout_of w) ≡ true → Laid w (layout_of w)
unfolding roots_at values_at members_at arguments_at fields_at edges_at types_at right_length
laid text w e r =
    let m = limits text (layout_of w) e in
    record {
      same = refl;
      types_at_is = refl;
      edges_at_is = refl;
      fields_at_is = refl;
      arguments_at_is = refl;
      members_at_is = refl;
      values_at_is = refl;
      roots_at_is = refl;
      whole = eqb-true _ _ r ∙ sym (roots_end w);
      names_most = m.names;
      types_most = m.types;
      edges_most = m.edges;
      fields_most = m.fields;
      arguments_most = m.arguments;
      members_most = m.members;
      values_most = m.values;
    }
