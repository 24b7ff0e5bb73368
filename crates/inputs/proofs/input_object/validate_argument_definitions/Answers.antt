-- `validate_argument_definitions`: the second list is written to the tail behind the first.
use native.Mathlib.Omega.{arith}
use Rattle.records.proofs.Records.{emit_seq}
use Rattle.lookup.proofs.CellLaws.{arguments_named}
use Rattle.inputs.specs.InputObject.{arguments_records}
use Rattle.inputs.proofs.input_object.validate_argument_definitions.Goals as goal

pub validate_unique_arguments-requires : goal.validate_unique_arguments-requires
validate_unique_arguments-requires c =
    record { arguments_bound = c.requires.argument_part.within; arguments_named = arguments_named c.args.schema.now.table.findable.indexed.rows c.requires.argument_part }

pub returns : goal.returns
unfolding arguments_records
returns c =
    record { emitted = emit_seq _ _ _ _ _ _ _ _ c.validate_argument_values-n.ensures.emitted c.used-at.ensures c.validate_unique_arguments.ensures.emitted; upper_bound = omega (arith, c.validate_argument_values-n.ensures.upper_bound, c.validate_unique_arguments.ensures.upper_bound) }
