-- The walk over the range stops at the first row of the name.
use mathlib.Core.Path.{◌≡◌}
use mathlib.Core.Bool.{Bool, true, false}
use Prim.Native.Nat.{ℕ}
use Rattle.std.proofs.Common.{rules, eqb}
use Rattle.std.proofs.lemmas.Iterator.{first_from_Range}
use Rattle.rows.specs.Parts.{argument_named, argument_name_in}
use Rattle.rows.proofs.FindLaws.{found_first}
use Rattle.rows.proofs.search.find_argument.Goals as goal

pub returns : goal.returns
unfolding argument_named
returns c =
    let p : ℕ → Bool = λ i. eqb (argument_name_in c.args.arguments.now i) c.args.name.0 in
    rw c.argument_rows.ensures at (found_first p _ _ (first_from_Range _ _ _ _ (λ i. p i ≡ true) (λ i. p i ≡ false) c.find.ensures.ran (λ x q k. search rules) (λ x q k. search rules)))
