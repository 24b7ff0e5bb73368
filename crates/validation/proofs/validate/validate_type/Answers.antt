-- `validate_type`: the second list is written to the tail behind the first.
use native.Mathlib.Omega.{arith}
use Rattle.records.proofs.Records.{emit_seq}
use Rattle.validation.proofs.validate.validate_type.Goals as goal

pub returns : goal.returns
returns c =
    record { emitted = emit_seq _ _ _ _ _ _ _ _ (simp (c.flag.ensures, c.name.ensures.value) at c.validate_type_system_name-n.ensures.emitted) c.used-at.ensures c.validate_kind.ensures.emitted; upper_bound = omega (arith, c.validate_type_system_name-n.ensures.upper_bound, c.validate_kind.ensures.upper_bound) }
