-- Cells that tell the arguments help, and so do none.
use mathlib.Core.Path.{refl}
use Rattle.lookup.proofs.CellLaws.{told_helps, none_helps}
use Rattle.comparing.proofs.implementation_argument.validate_interface_arguments.Goals as goal

pub validate_each_interface_argument-requires : goal.validate_each_interface_argument-requires
validate_each_interface_argument-requires c = record { arguments_bound = c.requires.arguments_bound; arguments_helped = none_helps _ _ }

pub index_arguments-requires : goal.index_arguments-requires
index_arguments-requires c = record { arguments_named = c.requires.arguments_named; cells_value = refl }

pub validate_each_interface_argument-requires-2 : goal.validate_each_interface_argument-requires-2
validate_each_interface_argument-requires-2 c = record { arguments_bound = c.requires.arguments_bound; arguments_helped = told_helps _ c.index_arguments.ensures }
