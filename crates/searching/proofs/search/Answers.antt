use native.Mathlib.Numerals.{add-one}
use native.Mathlib.Omega.{arith}
use mathlib.Core.Path.{◌≡◌, ◌∙◌}
use Rattle.links.specs.Fields.{chain_graph}
use Rattle.evidence.proofs.Counts.{count_low}
use Rattle.searching.proofs.Levels.{searching_first, searching_more, searched}
use Rattle.searching.proofs.Lookups.{facts}
use Rattle.searching.proofs.Reach.{listed_none}
use Rattle.searching.proofs.search.Goals as goal

pub visit-n-requires-clause-entering : goal.visit-n-requires-clause-entering
visit-n-requires-clause-entering c =
    record { listed = listed_none _ _ c.requires.clear.room (λ u l. c.requires.clear.zero u (omega arith)); some = omega arith; help = c.requires.help }

pub loop-head-init : goal.loop-head-init
loop-head-init c =
    let k = count_low c.visit-n.ensures.grown.listed.count in
    (omega (arith, (facts c.requires.help).types), omega arith, searching_first (chain_graph c.args.links.now.words.now) (λ u l. c.requires.clear.zero u (omega arith)) c.visit-n.ensures)

pub loop-head-preserved : goal.loop-head-preserved
loop-head-preserved c =
    let v = rw (c.counts_at-list.ensures ∙ (facts c.requires.help).types) at c.visit-n-in-loop-head.ensures in
    let m = v.grown.more in
    let k = count_low v.grown.listed.count in
    (omega (arith, (facts c.requires.help).types), omega arith, rw add-one (searching_more (chain_graph c.args.links.now.words.now) c.loop-head-test.true c.loop-head.invariant.2 v))

pub returns-clause-searched : goal.returns-clause-searched
returns-clause-searched c =
    let e : c.loop-head.head ≡ c.loop-head.n = omega arith in
    searched (chain_graph c.args.links.now.words.now) c.args.t.0 c.loop-head.n _ c.args.work.now _ c.loop-head.work c.visit-n.ensures (rw e at c.loop-head.invariant.2)
