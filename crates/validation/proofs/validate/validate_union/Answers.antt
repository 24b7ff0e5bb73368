-- `validate_union`: each branch lists what the definition lists there, by the tests that led to it.
use Rattle.validation.proofs.validate.validate_union.Goals as goal

pub validate_union_definition-requires : goal.validate_union_definition-requires
validate_union_definition-requires c = rw c.members_start-first.ensures c.members_of-members.ensures.name_part

pub returns : goal.returns
returns c =
    record { emitted = simp (c.members_start-first.ensures, c.members_of-members.ensures.result_value) at c.validate_union_definition.ensures.emitted; upper_bound = c.validate_union_definition.ensures.upper_bound }
