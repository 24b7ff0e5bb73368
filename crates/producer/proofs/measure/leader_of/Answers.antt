-- `leader_of`: the search marks what t reaches, and the numbers are known.
use Rattle.links.specs.Fields.{chain_graph}
use Rattle.searching.proofs.Lookups.{facts}
use Rattle.producer.proofs.PassLaws.{looked, first_leader}
use Rattle.producer.proofs.measure.leader_of.Goals as goal

pub returns-clause-leader_is : goal.returns-clause-leader_is
returns-clause-leader_is c =
    let e = (facts c.requires.may_search.help).types in
    first_leader (chain_graph c.args.links.now.words.now) {ev = c.args.out.now} (looked (chain_graph c.args.links.now.words.now) c.search.ensures.searched c.requires.right) (rw e at c.requires.may_search.low) c.lowest_back-found.ensures
