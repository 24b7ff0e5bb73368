-- The walk over the range stops at the first row of the name.
use mathlib.Core.Path.{◌≡◌}
use mathlib.Core.Bool.{Bool, true, false}
use Prim.Native.Nat.{ℕ}
use Rattle.std.proofs.Common.{rules, eqb}
use Rattle.std.proofs.lemmas.Iterator.{first_from_Range}
use Rattle.rows.specs.Parts.{field_named, field_name_in}
use Rattle.rows.proofs.FindLaws.{found_first}
use Rattle.rows.proofs.search.find_field.Goals as goal

pub returns : goal.returns
unfolding field_named
returns c =
    let p : ℕ → Bool = λ i. eqb (field_name_in c.args.fields.now i) c.args.name.0 in
    rw c.field_rows.ensures at (found_first p _ _ (first_from_Range _ _ _ _ (λ i. p i ≡ true) (λ i. p i ≡ false) c.find.ensures.ran (λ x q k. search rules) (λ x q k. search rules)))
