-- `chain_to`: the test of the code is that of the definition, and a field of the type is a field of the table.
use borrow.Author.Tests.{ltb-true}
use native.Mathlib.Omega.{arith}
use mathlib.Core.Path.{◌≡◌, refl, sym, ◌∙◌}
use Prim.Native.Nat.{ℕ}
use lib.Dec.{leb, ltb}
use Rattle.std.proofs.Common.{nat_cmp, is_le, is_lt}
use Rattle.std.proofs.lemmas.Bool.Decides.{nat_tests}
use Rattle.names.proofs.BoolLaws.{and_right}
use Rattle.evidence.specs.ChainTo.{chain_to}
use Rattle.evidence.proofs.ChainLaws.{chained}
use Rattle.evidence.proofs.chain.chain_to.Goals as goal

le_leb : (a b : ℕ) → is_le (nat_cmp a b) ≡ leb a b
le_leb a b = grind (arith, nat_tests)

lt_ltb : (a b : ℕ) → is_lt (nat_cmp a b) ≡ ltb a b
lt_ltb a b = grind (arith, nat_tests)

pub returns-then-not-contains : goal.returns-then-not-contains
unfolding chain_to
returns-then-not-contains c =
    let e = simp (le_leb, lt_ltb) at c.contains.ensures.value in
    rw (← c.start.ensures, ← c.end.ensures, sym e ∙ c.if-not-contains.true) refl

pub target-requires : goal.target-requires
target-requires c =
    let e = simp (le_leb, lt_ltb) at c.contains.ensures.value in
    let low = ltb-true c.args.f c.end.result (and_right (leb c.start.result c.args.f) _ (sym e ∙ c.if-not-contains.false)) in
    omega (arith, low, (chained c.args.links.now.linked.rows).inside c.args.t.0 c.requires)

pub returns : goal.returns
unfolding chain_to
returns c =
    let e = simp (le_leb, lt_ltb) at c.contains.ensures.value in
    rw (← c.start.ensures, ← c.end.ensures, sym e ∙ c.if-not-contains.false) c.target.ensures
