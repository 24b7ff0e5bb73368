use Rattle.std.proofs.Common.{rules, tests, zero-le}
use Rattle.names.proofs.RangeLaws.{every_all}
use Rattle.wellformed.specs.WellFormed.{rows_distinct, rows_all_distinct}
use Rattle.wellformed.proofs.refusal6.rows_all_distinct.Goals as goal

pub returns : goal.returns
unfolding rows_all_distinct
returns c = every_all (rows_distinct c.args.words.now c.args.l) _ _ _ _ _ zero-le c.all.ensures.ran (λ x b q k. search (rules, tests))
