-- `number_of`: the types that t reaches are counted, and t itself is left out.
use native.Mathlib.Omega.{arith}
use Rattle.links.specs.Fields.{chain_graph}
use Rattle.searching.proofs.Lookups.{facts}
use Rattle.producer.proofs.PassLaws.{others_open, others_some, others_closed}
use Rattle.producer.proofs.measure.number_of.Goals as goal

pub returns-then-back-eq0-clause-number_is : goal.returns-then-back-eq0-clause-number_is
returns-then-back-eq0-clause-number_is c =
    let e = (facts c.requires.help).types in
    let b = rw e at c.requires.low in
    others_open (chain_graph c.args.links.now.words.now) c.args.t.0 c.search-n.result (λ r. (c.search-n.ensures.searched.marks c.args.t.0 b).1 r c.if-back-eq0.true) c.search-n.ensures.searched.count

pub overflow_sub-result : goal.overflow_sub-result
overflow_sub-result c =
    let e = (facts c.requires.help).types in
    let b = rw e at c.requires.low in
    let k = others_some (chain_graph c.args.links.now.words.now) c.args.t.0 c.search-n.result b ((c.search-n.ensures.searched.marks c.args.t.0 b).0 c.if-back-eq0.false) c.search-n.ensures.searched.count in
    omega arith

pub returns-clause-number_is : goal.returns-clause-number_is
returns-clause-number_is c =
    let e = (facts c.requires.help).types in
    let b = rw e at c.requires.low in
    others_closed (chain_graph c.args.links.now.words.now) c.args.t.0 c.search-n.result b ((c.search-n.ensures.searched.marks c.args.t.0 b).0 c.if-back-eq0.false) c.search-n.ensures.searched.count
