-- `field_target`: the test of the wrap is that of the definition, and behind it stands the input object of the field's type name.
use native.Mathlib.Omega.{arith}
use mathlib.Core.Path.{◌≡◌, sym, ap, ◌∙◌}
use Prim.Native.Nat.{ℕ}
use lib.Dec.{eqb}
use Rattle.table.specs.Layout.{type_count, field_wrap}
use Rattle.rows.proofs.FoundTypes.{found_nothing}
use Rattle.rows.proofs.PartLaws.{type_count_lem}
use Rattle.links.specs.Fields.{chain_wrap, chain_target}
use Rattle.links.proofs.field_target.Goals as goal

-- where the wrap was tested: the test of the definition
pub returns-then-eq : goal.returns-then-eq
unfolding chain_target
returns-then-eq c =
    let wrap-test : c.eq.result ≡ eqb (field_wrap c.args.words.now c.args.f) chain_wrap = c.eq.ensures ∙ ap (λ (x : ℕ). eqb x chain_wrap) c.field_wrap.ensures in
    simp (sym wrap-test ∙ c.if-eq.true, ← c.field_type.ensures, c.input_object_named.ensures)

pub returns : goal.returns
unfolding chain_target
returns c =
    let wrap-test : c.eq.result ≡ eqb (field_wrap c.args.words.now c.args.f) chain_wrap = c.eq.ensures ∙ ap (λ (x : ℕ). eqb x chain_wrap) c.field_wrap.ensures in
    let k : chain_target c.args.words.now c.args.f ≡ type_count c.args.words.now = simp (sym wrap-test ∙ c.if-eq.false) in
    sym (found_nothing _ _ (omega (arith, k, type_count_lem _ _ c.requires.indexed.rows.laid)))
