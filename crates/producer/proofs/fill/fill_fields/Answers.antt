-- `fill_fields`: both passes need leaders, distances and depths, and leave them as they are.
use native.Mathlib.Omega.{arith}
use Prim.Native.Nat.{◌≤◌}
use Rattle.table.specs.Layout.{none, type_count}
use Rattle.links.specs.Fields.{chain_graph}
use Rattle.searching.proofs.Lookups.{facts}
use Rattle.producer.proofs.Assemble.{fitted}
use Rattle.producer.proofs.ChoiceLaws.{measured_kept}
use Rattle.producer.proofs.fill.fill_fields.Goals as goal

pub fill-requires-2-clause-all_right : goal.fill-requires-2-clause-all_right
fill-requires-2-clause-all_right c =
    measured_kept (chain_graph c.args.links.now.words.now) c.fill.ensures.filled.column (omega arith) (omega arith) (omega arith) c.requires.all_right.1

pub returns : goal.returns
returns c =
    let few : type_count c.args.links.now.words.now ≤ none = omega (arith, (facts c.requires.filling.help).types, (facts c.requires.filling.help).types_few) in
    fitted (chain_graph c.args.links.now.words.now) few c.requires.filling.room c.requires.all_right c.fill.ensures.filled c.fill-2.ensures.filled c.fill.ensures.cleared c.fill-2.ensures.cleared
