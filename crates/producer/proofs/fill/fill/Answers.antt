use native.Mathlib.Numerals.{add-one}
use Rattle.links.specs.Fields.{chain_graph}
use Rattle.searching.proofs.Lookups.{facts}
use Rattle.producer.proofs.KnownLaws.{place_low, known_kept, word_kept}
use Rattle.producer.proofs.PassLaws.{filled_more, cleared_join}
use Rattle.producer.proofs.fill.fill.Goals as goal

pub word_for-v-requires-clause-all_right : goal.word_for-v-requires-clause-all_right
word_for-v-requires-clause-all_right c =
    known_kept (chain_graph c.args.links.now.words.now) c.args.k c.loop-t.invariant.0.column c.requires.all_right

pub loop-t-preserved : goal.loop-t-preserved
loop-t-preserved c =
    let b = rw (facts c.requires.filling.help).types at c.loop-t-test.true in
    let right = word_kept (chain_graph c.args.links.now.words.now) c.args.k c.loop-t.invariant.0.column c.loop-t.t c.word_for-v.result.0 b c.word_for-v.ensures.word_is in
    let more = filled_more (chain_graph c.args.links.now.words.now) c.args.k c.loop-t.t _ c.word_for-v.result.0 c.args.out.now c.loop-t.out c.at-at.ensures (place_low c.args.k) b c.requires.filling.room c.loop-t.invariant.0 right in
    (rw add-one more, cleared_join c.loop-t.invariant.1 c.word_for-v.ensures.cleared)
