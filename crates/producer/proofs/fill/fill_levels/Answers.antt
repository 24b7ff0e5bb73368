-- `fill_levels`: both passes need the leaders, and leave them as they are.
use Rattle.links.specs.Fields.{chain_graph}
use Rattle.producer.proofs.Assemble.{leveled}
use Rattle.producer.proofs.fill.fill_levels.Goals as goal

pub returns : goal.returns
returns c =
    leveled (chain_graph c.args.links.now.words.now) c.requires.all_right c.fill.ensures.filled c.fill-2.ensures.filled c.fill.ensures.cleared c.fill-2.ensures.cleared
