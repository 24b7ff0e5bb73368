-- `some_comes_in`: the iterator answers `any` of the types.
use Rattle.std.proofs.Common.{refl, arith, ◌∙◌, rules, tests}
use Rattle.std.proofs.lemmas.Iterator.{YieldsList-from_range}
use Rattle.std.proofs.lemmas.Iterator.Search.{any_from_yields_List}
use Rattle.table.specs.Layout.{type_count}
use Rattle.links.specs.Fields.{chain_graph}
use Rattle.evidence.specs.Rules.{comes_in}
use Rattle.evidence.proofs.TestLaws.{any_below}
use Rattle.judge.proofs.rule.some_comes_in.Goals as goal

pub returns : goal.returns
returns c =
    any_from_yields_List (comes_in (chain_graph c.args.links.now.words.now) c.args.ev.now c.args.t.0 c.args.f) _ _ _ c.any.ensures.ran (YieldsList-from_range 0 _ (type_count c.args.links.now.words.now) refl (omega arith)) (λ x b q k. search (rules, tests)) ∙ any_below _ _
