-- `layers_fit`: what the calls answer, put together as the definition does.
use mathlib.Core.Path.{sym, ◌∙◌}
use Rattle.comparing.proofs.LayerLaws.{fit_names, fit_list, fit_name, fit_next, fit_stop}
use Rattle.comparing.proofs.field_types.+layers_fit.Goals as goal

pub returns-then-own_left-eq0 : goal.returns-then-own_left-eq0
returns-then-own_left-eq0 t c = c.layer_fits.ensures ∙ sym (fit_names _ _ _ _ _ c.if-left-eq0.true c.if-own_left-eq0.true)

pub returns-then-left-eq0 : goal.returns-then-left-eq0
returns-then-left-eq0 t c = sym (fit_list _ _ _ _ _ c.if-left-eq0.true c.if-own_left-eq0.false)

pub returns-then-own_left-eq0-2 : goal.returns-then-own_left-eq0-2
returns-then-own_left-eq0-2 t c = sym (fit_name _ _ _ _ _ c.if-left-eq0.false c.if-own_left-eq0-2.true)

pub returns-then-layer_fits : goal.returns-then-layer_fits
returns-then-layer_fits t c = c.layers_fit.ensures ∙ sym (fit_next _ _ _ _ _ c.if-left-eq0.false c.if-own_left-eq0-2.false (sym c.if-layer_fits.ensures))

pub returns : goal.returns
returns t c = sym (fit_stop _ _ _ _ _ c.if-left-eq0.false c.if-own_left-eq0-2.false (sym c.if-layer_fits.ensures))
