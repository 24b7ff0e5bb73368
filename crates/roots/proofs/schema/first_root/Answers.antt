-- The walk over the operations stops at the first with the name.
use mathlib.Core.Path.{◌≡◌, ◌∙◌}
use mathlib.Core.Bool.{Bool, true, false}
use Prim.Native.Nat.{ℕ}
use lib.Dec.{eqb}
use borrow.Author.Rules.{rules}
use Rattle.std.proofs.lemmas.Iterator.{first_from_Range}
use Rattle.table.specs.Layout.{root}
use Rattle.roots.specs.Schema.{first_root}
use Rattle.rows.proofs.FindLaws.{found_or_end}
use Rattle.roots.proofs.schema.first_root.Goals as goal

pub returns : goal.returns
unfolding first_root
returns c =
    let p : ℕ → Bool = λ i. eqb (root c.args.table.now.words.now i) c.args.name.0 in
    c.unwrap_or.ensures ∙ found_or_end p _ _ (first_from_Range _ _ _ _ (λ i. p i ≡ true) (λ i. p i ≡ false) c.find.ensures.ran (λ x q k. search rules) (λ x q k. search rules))
