-- The list of a type by its kind.
use mathlib.Core.Path.{◌≡◌, sym, ap, ◌∙◌}
use mathlib.Core.List.{List, []}
use Prim.Native.Nat.{ℕ}
use Rattle.table.specs.Answers.{kind_number}
use Rattle.table.specs.declared.kinds.Kind.{Kind}
use Rattle.table.specs.declared.kinds.Kind.TheVariants.{Scalar, Object, Interface, Union, Enum, InputObject}
use Rattle.table.specs.Kinds.{input_object_kind}
use Rattle.table.specs.Layout.{type_kind}
use Rattle.validation.specs.Object.{object_records, interface_records}
use Rattle.validation.specs.Validation.{of_union, of_enum, of_input_object, kind_records}

-- k is the kind that was read of type t
module _ (text w : List ℕ) (cycle t : ℕ) (k : Kind) (read : kind_number k ≡ type_kind w t) where
  is : (x : Kind) → k ≡ x → type_kind w t ≡ kind_number x
  is x e = sym read ∙ ap kind_number e

  pub kind_scalar : k ≡ Scalar → kind_records text w cycle t ≡ []
  unfolding kind_records input_object_kind
  kind_scalar e = rw (is Scalar e)

  pub kind_object : k ≡ Object → kind_records text w cycle t ≡ object_records text w t
  unfolding kind_records
  kind_object e = rw (is Object e)

  pub kind_interface : k ≡ Interface → kind_records text w cycle t ≡ interface_records text w t
  unfolding kind_records
  kind_interface e = rw (is Interface e)

  pub kind_union : k ≡ Union → kind_records text w cycle t ≡ of_union w t
  unfolding kind_records
  kind_union e = rw (is Union e)

  pub kind_enum : k ≡ Enum → kind_records text w cycle t ≡ of_enum text w t
  unfolding kind_records
  kind_enum e = rw (is Enum e)

  pub kind_input_object : k ≡ InputObject → kind_records text w cycle t ≡ of_input_object text w cycle t
  unfolding kind_records input_object_kind
  kind_input_object e = rw (is InputObject e)
