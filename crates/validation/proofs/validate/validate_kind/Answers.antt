-- Each arm lists what the definition lists for that kind.
use native.Mathlib.Omega.{arith}
use Rattle.records.proofs.Records.{emit_none}
use Rattle.validation.proofs.KindLaws.{kind_scalar, kind_object, kind_interface, kind_union, kind_enum, kind_input_object}
use Rattle.validation.proofs.validate.validate_kind.Goals as goal

pub returns-in-Scalar : goal.returns-in-Scalar
returns-in-Scalar c =
    record { emitted = rw (kind_scalar _ _ _ _ _ c.kind.ensures c.in-Scalar.is) (emit_none _); upper_bound = omega arith }

pub returns-in-Object : goal.returns-in-Object
returns-in-Object c =
    record { emitted = rw (kind_object _ _ _ _ _ c.kind.ensures c.in-Object.is) c.validate_object_type_definition.ensures.emitted; upper_bound = omega (arith, c.validate_object_type_definition.ensures.upper_bound) }

pub returns-in-Interface : goal.returns-in-Interface
returns-in-Interface c =
    record { emitted = rw (kind_interface _ _ _ _ _ c.kind.ensures c.in-Interface.is) c.validate_interface_definition.ensures.emitted; upper_bound = omega (arith, c.validate_interface_definition.ensures.upper_bound) }

pub returns-in-Union : goal.returns-in-Union
returns-in-Union c =
    record { emitted = rw (kind_union _ _ _ _ _ c.kind.ensures c.in-Union.is) c.validate_union.ensures.emitted; upper_bound = omega (arith, c.validate_union.ensures.upper_bound) }

pub returns-in-Enum : goal.returns-in-Enum
returns-in-Enum c =
    record { emitted = rw (kind_enum _ _ _ _ _ c.kind.ensures c.in-Enum.is) c.validate_enum.ensures.emitted; upper_bound = omega (arith, c.validate_enum.ensures.upper_bound) }

pub returns-in-InputObject : goal.returns-in-InputObject
returns-in-InputObject c =
    record { emitted = rw (kind_input_object _ _ _ _ _ c.kind.ensures c.in-InputObject.is) c.validate_input_object.ensures.emitted; upper_bound = omega (arith, c.validate_input_object.ensures.upper_bound) }
