-- `validate_enum`: each branch lists what the definition lists there, by the tests that led to it.
use Rattle.validation.proofs.validate.validate_enum.Goals as goal

pub validate_enum_definition-requires : goal.validate_enum_definition-requires
validate_enum_definition-requires c =
    record { t_lt_types = c.requires; name_part = rw c.values_start-first.ensures c.values_of-values.ensures.name_part }

pub returns : goal.returns
returns c =
    record { emitted = simp (c.values_start-first.ensures, c.values_of-values.ensures.result_value) at c.validate_enum_definition.ensures.emitted; upper_bound = c.validate_enum_definition.ensures.upper_bound }
