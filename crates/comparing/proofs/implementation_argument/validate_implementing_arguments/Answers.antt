-- `validate_implementing_arguments`: the second list is written to the tail behind the first.
use native.Mathlib.Omega.{arith}
use Rattle.records.proofs.Records.{emit_seq}
use Rattle.comparing.specs.Arguments.{implementing_arguments}
use Rattle.lookup.proofs.CellLaws.{arguments_named}
use Rattle.comparing.proofs.implementation_argument.validate_implementing_arguments.Goals as goal

pub validate_interface_arguments-n-requires : goal.validate_interface_arguments-n-requires
validate_interface_arguments-n-requires c =
    record { arguments_bound = (rw c.arguments_start-first.ensures c.arguments_of-arguments.ensures.argument_part.within, rw c.arguments_start-interface_first.ensures c.arguments_of-interface_arguments.ensures.argument_part.within); arguments_named = arguments_named c.args.table.now.findable.indexed.rows c.arguments_of-arguments.ensures.argument_part }

pub validate_extra_arguments-requires : goal.validate_extra_arguments-requires
validate_extra_arguments-requires c =
    record { arguments_bound = rw c.arguments_start-first.ensures c.arguments_of-arguments.ensures.argument_part.within; arguments_named = arguments_named c.args.table.now.findable.indexed.rows c.arguments_of-interface_arguments.ensures.argument_part }

pub returns : goal.returns
unfolding implementing_arguments
returns c =
    record { emitted = emit_seq _ _ _ _ _ _ _ _ (simp (c.arguments_start-first.ensures, c.arguments_of-arguments.ensures.result_value, c.arguments_start-interface_first.ensures, c.arguments_of-interface_arguments.ensures.result_value) at c.validate_interface_arguments-n.ensures.emitted) c.used-at.ensures (simp (c.arguments_start-first.ensures, c.arguments_of-arguments.ensures.result_value, c.arguments_start-interface_first.ensures, c.arguments_of-interface_arguments.ensures.result_value) at c.validate_extra_arguments.ensures.emitted); upper_bound = omega (arith, c.validate_interface_arguments-n.ensures.upper_bound, c.validate_extra_arguments.ensures.upper_bound) }
