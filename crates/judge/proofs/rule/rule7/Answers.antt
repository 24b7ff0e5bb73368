-- `rule7`: the iterator answers `every` of the fields.
use Rattle.std.proofs.iter.Serving.{serving}
use Rattle.std.proofs.Common.{refl, arith, ◌∙◌, rules, tests}
use Rattle.std.proofs.lemmas.Iterator.{YieldsList-from_range}
use Rattle.std.proofs.lemmas.Iterator.Search.{all_from_yields_List}
use Rattle.links.specs.Fields.{chain_graph}
use Rattle.evidence.specs.Rules.{falls, rule7}
use Rattle.evidence.proofs.TestLaws.{all_every}
use Rattle.evidence.proofs.ChainLaws.{chained}
use Rattle.judge.proofs.rule.rule7.Goals as goal

pub all-requires-clause-callable : goal.all-requires-clause-callable
all-requires-clause-callable c =
    let inside = (chained c.args.links.now.linked.rows).inside c.args.t.0 c.requires in
    grind (serving, arith, inside)

pub returns : goal.returns
unfolding rule7
returns c =
    all_from_yields_List (falls (chain_graph c.args.links.now.words.now) c.args.ev.now c.args.t.0) _ _ _ c.all.ensures.ran (YieldsList-from_range _ _ _ refl refl) (λ x b q k. search (rules, tests)) ∙ rw (c.start.ensures, c.end.ensures) (all_every _ _ _)
