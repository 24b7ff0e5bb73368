-- `distance_of`: a search from t meets its leader at the distance.
use borrow.Author.Tests.{eqb-true, eqb-false}
use mathlib.Core.Path.{sym, ◌∙◌}
use Rattle.names.proofs.BoolLaws.{passes, fails}
use Rattle.evidence.proofs.Kept.{marked_at, unmarked_at}
use Rattle.links.specs.Fields.{chain_graph}
use Rattle.searching.proofs.Lookups.{facts}
use Rattle.producer.specs.Produced.{IfMarked.unmarked}
use Rattle.producer.proofs.PassLaws.{distance_itself, distance_level, leader_type}
use Rattle.producer.proofs.measure.distance_of.Goals as goal

pub returns-then-not-marked-clause-word_is : goal.returns-then-not-marked-clause-word_is
returns-then-not-marked-clause-word_is c =
    unmarked (unmarked_at c.args.out.now c.args.t.0 (fails c.marked.ensures c.if-not-marked.true-raw))

pub returns-then-leads-clause-word_is : goal.returns-then-leads-clause-word_is
returns-then-leads-clause-word_is c =
    let n = marked_at c.args.out.now c.args.t.0 (passes c.marked.ensures c.if-not-marked.false-raw) in
    distance_itself (chain_graph c.args.links.now.words.now) c.args.out.now c.args.t.0 n (eqb-true _ _ (sym c.leads.ensures ∙ c.if-leads.true))

pub level-requires-clause-u_lt_types : goal.level-requires-clause-u_lt_types
level-requires-clause-u_lt_types c =
    let e = (facts c.requires.may_search.help).types in
    let n = marked_at c.args.out.now c.args.t.0 (passes c.marked.ensures c.if-not-marked.false-raw) in
    rw e (leader_type (chain_graph c.args.links.now.words.now) c.args.out.now c.args.t.0 (c.requires.right c.args.t.0 (rw e at c.requires.may_search.low)) c.leader.ensures n)

pub returns-clause-word_is : goal.returns-clause-word_is
returns-clause-word_is c =
    let e = (facts c.requires.may_search.help).types in
    let n = marked_at c.args.out.now c.args.t.0 (passes c.marked.ensures c.if-not-marked.false-raw) in
    distance_level (chain_graph c.args.links.now.words.now) c.args.out.now c.args.t.0 (c.requires.right c.args.t.0 (rw e at c.requires.may_search.low)) c.leader.ensures n (eqb-false _ _ (sym c.leads.ensures ∙ c.if-leads.false)) c.level.ensures.level_is
