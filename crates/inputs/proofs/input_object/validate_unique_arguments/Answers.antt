-- The cells tell the arguments, or there are none: either helps.
use mathlib.Core.Path.{refl}
use Rattle.lookup.proofs.CellLaws.{told_helps, none_helps}
use Rattle.inputs.proofs.input_object.validate_unique_arguments.Goals as goal

pub validate_each_unique_argument-requires : goal.validate_each_unique_argument-requires
validate_each_unique_argument-requires c = record { arguments_bound = c.requires.arguments_bound; arguments_helped = none_helps _ _ }

pub index_arguments-requires : goal.index_arguments-requires
index_arguments-requires c = record { arguments_named = c.requires.arguments_named; cells_value = refl }

pub validate_each_unique_argument-requires-2 : goal.validate_each_unique_argument-requires-2
validate_each_unique_argument-requires-2 c = record { arguments_bound = c.requires.arguments_bound; arguments_helped = told_helps _ c.index_arguments.ensures }
