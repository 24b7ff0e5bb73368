-- `validate_input_object`: each branch lists what the definition lists there, by the tests that led to it.
use Rattle.validation.proofs.validate.validate_input_object.Goals as goal

pub validate_input_object_definition-requires : goal.validate_input_object_definition-requires
validate_input_object_definition-requires c =
    record { t_lt_types = c.requires; field_part = rw c.fields_start-first.ensures c.fields_of-fields.ensures.field_part }

pub returns : goal.returns
returns c =
    record { emitted = simp (c.fields_start-first.ensures, c.fields_of-fields.ensures.result_value) at c.validate_input_object_definition.ensures.emitted; upper_bound = c.validate_input_object_definition.ensures.upper_bound }
