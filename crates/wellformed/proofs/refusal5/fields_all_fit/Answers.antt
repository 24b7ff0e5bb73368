use Rattle.std.proofs.Common.{rules, tests, zero-le}
use Rattle.names.proofs.RangeLaws.{every_all}
use Rattle.wellformed.specs.WellFormed.{fields_fit, fields_all_fit}
use Rattle.wellformed.proofs.refusal5.fields_all_fit.Goals as goal

pub returns : goal.returns
unfolding fields_all_fit
returns c = every_all (fields_fit c.args.words.now c.args.l) _ _ _ _ _ zero-le c.all.ensures.ran (λ x b q k. search (rules, tests))
