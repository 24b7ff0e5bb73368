use Rattle.std.proofs.Common.{rules, tests, zero-le}
use Rattle.names.proofs.RangeLaws.{every_all}
use Rattle.wellformed.specs.WellFormed.{sections_fit, sections_all_fit}
use Rattle.wellformed.proofs.refusal5.sections_all_fit.Goals as goal

pub returns : goal.returns
unfolding sections_all_fit
returns c = every_all (sections_fit c.args.words.now c.args.l) _ _ _ _ _ zero-le c.all.ensures.ran (λ x b q k. search (rules, tests))
