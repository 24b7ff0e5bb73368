-- The arguments of an interface's field against those of the own field: 11 or 12 per interface argument, then 13. Type t has the own field, and viaEdge is
-- the row of the edge that leads to the interface. The interface's arguments are `demanded`, from row `demandedFirst` on.
use Rattle.std.specs.Prelude.{Bool, not, cond, ◌&&◌, List, ◌∷◌, [], ◌++◌, ℕ, ◌+◌, eqb, ltb}
use Rattle.table.specs.Layout.{arguments_start}
use Rattle.names.specs.Wraps.{non_null}
use Rattle.records.specs.declared.Record.{Record}
use Rattle.records.specs.Records.{each, when}
use Rattle.records.specs.Rows.{missing_interface_field_argument, invalid_implementation_field_argument_type, extra_required_implementation_field_argument}
use Rattle.rows.specs.Parts.{arguments_of, argument_rows, argument_name_in, argument_type_in, argument_wrap_in, argument_default_in, argument_named}
use Rattle.comparing.specs.declared.implementation_argument.FieldPair.{FieldPair}

-- the first argument of the name counts
abbrev pub has_argument : (arguments : List ℕ) (n : ℕ) → Bool
has_argument arguments n = ltb (argument_named arguments n) (argument_rows arguments)

-- argument types are equal: the same name in the same wrap
abbrev pub same_type : (arguments : List ℕ) (i : ℕ) (others : List ℕ) (other : ℕ) → Bool
same_type arguments i others other =
    eqb (argument_type_in arguments i) (argument_type_in others other) && eqb (argument_wrap_in arguments i) (argument_wrap_in others other)

-- 11 for argument i of the interface's field, which the own field lacks; 12 where the types differ. The own field's arguments start at row `first`
unfoldable pub interface_argument : (t viaEdge field first : ℕ) (arguments : List ℕ) (demandedFirst : ℕ) (demanded : List ℕ) (i : ℕ) → List Record
interface_argument t viaEdge field first arguments demandedFirst demanded i =
    let own = argument_named arguments (argument_name_in demanded i) in
    cond (has_argument arguments (argument_name_in demanded i))
    (when (not (same_type demanded i arguments own)) (invalid_implementation_field_argument_type t viaEdge (demandedFirst + i) (first + own) ∷ []))
    (missing_interface_field_argument t viaEdge field (demandedFirst + i) ∷ [])

-- 13 for an own argument i that the interface's field lacks, non-null outermost and without default
unfoldable pub extra_argument : (t viaEdge interfaceField first : ℕ) (arguments demanded : List ℕ) (i : ℕ) → List Record
extra_argument t viaEdge interfaceField first arguments demanded i =
    when (not (has_argument demanded (argument_name_in arguments i)) && (non_null (argument_wrap_in arguments i) 0 && eqb (argument_default_in arguments i) 0))
    (extra_required_implementation_field_argument t viaEdge interfaceField (first + i) ∷ [])

-- the arguments of the own field against those of the interface's field
unfoldable pub implementing_arguments : (w : List ℕ) (t viaEdge interfaceField field : ℕ) → List Record
implementing_arguments w t viaEdge interfaceField field =
    let demanded = arguments_of w interfaceField in
    let arguments = arguments_of w field in
    each (interface_argument t viaEdge field (arguments_start w field) arguments (arguments_start w interfaceField) demanded) (argument_rows demanded)
    ++ each (extra_argument t viaEdge interfaceField (arguments_start w field) arguments demanded) (argument_rows arguments)

-- The same for the numbers that the code hands on together.

-- argument i of the interface's field, against those of the own field
abbrev pub demanded_argument : (pair : FieldPair) (first : ℕ) (arguments : List ℕ) (demandedFirst : ℕ) (demanded : List ℕ) (i : ℕ) → List Record
demanded_argument pair first arguments demandedFirst demanded i =
    interface_argument pair.ty.0 pair.edge pair.own_field first arguments demandedFirst demanded i

-- 11 or 12 per interface argument
abbrev pub demanded_arguments : (pair : FieldPair) (first : ℕ) (arguments : List ℕ) (demandedFirst : ℕ) (demanded : List ℕ) → List Record
demanded_arguments pair first arguments demandedFirst demanded = each (demanded_argument pair first arguments demandedFirst demanded) (argument_rows demanded)

-- argument i of the own field, against those of the interface's field
abbrev pub own_argument : (pair : FieldPair) (first : ℕ) (arguments demanded : List ℕ) (i : ℕ) → List Record
own_argument pair first arguments demanded i = extra_argument pair.ty.0 pair.edge pair.interface_field first arguments demanded i

-- 13 per own argument
abbrev pub own_arguments : (pair : FieldPair) (first : ℕ) (arguments demanded : List ℕ) → List Record
own_arguments pair first arguments demanded = each (own_argument pair first arguments demanded) (argument_rows arguments)
