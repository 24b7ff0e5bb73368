-- `is_valid_implementation_field_type`: where the wraps fit the names decide.
use mathlib.Core.Path.{sym, ◌∙◌}
use Rattle.comparing.specs.FieldTypes.{field_type_fits}
use Rattle.comparing.proofs.field_types.is_valid_implementation_field_type.Goals as goal

pub returns-then-wraps_fit : goal.returns-then-wraps_fit
unfolding field_type_fits
returns-then-wraps_fit c = rw (sym c.wraps_fit.ensures ∙ c.if-wraps_fit.true) c.names_match.ensures

pub returns : goal.returns
unfolding field_type_fits
returns c = rw (sym c.wraps_fit.ensures ∙ c.if-wraps_fit.false)
