use Rattle.std.proofs.Common.{rules, tests, zero-le}
use Rattle.names.proofs.RangeLaws.{every_all}
use Rattle.name_section.specs.NameSection.{name_rises}
use Rattle.name_section.proofs.names_rise.Goals as goal

pub returns : goal.returns
returns c = every_all (name_rises c.args.text.now c.args.words.now c.args.l) _ _ _ _ _ zero-le c.all.ensures.ran (λ x b q k. search (rules, tests))
