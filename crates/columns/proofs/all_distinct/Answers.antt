use Rattle.std.proofs.Common.{◌≡◌, not, refl, sym, ap, ◌∙◌, arith}
use Rattle.names.proofs.CountLaws.{every_none, every_more, every_fails}
use Rattle.columns.specs.Columns.{distinct}
use Rattle.columns.proofs.RepeatLaws.{met_none, met_more, met_fresh, distinct_short}
use Rattle.columns.proofs.all_distinct.Goals as goal

pub returns-then-to-from-lt2 : goal.returns-then-to-from-lt2
returns-then-to-from-lt2 c = sym (distinct_short _ _ _ _ (omega arith))

pub loop-i-init : goal.loop-i-init
loop-i-init c = record { size = refl; met = met_none c.args.words.now c.args.col c.args.from 128; passed = every_none _ _ }

pub returns-then-is_in : goal.returns-then-is_in
unfolding distinct
returns-then-is_in c =
    let known = rw c.end_at-name.ensures.value at (sym c.is_in.ensures ∙ c.if-is_in.true) in
    sym (every_fails _ _ _ _ (omega arith) (omega arith) (met_fresh _ _ _ _ _ c.loop-i.invariant.met ∙ ap not known))

pub loop-i-preserved : goal.loop-i-preserved
loop-i-preserved c =
    let new = rw c.end_at-name.ensures.value at (sym c.is_in.ensures ∙ c.if-is_in.false) in
    record {
      size = c.add.ensures.size ∙ c.loop-i.invariant.size;
      met = met_more _ _ _ _ _ _ _ (omega arith) c.loop-i.invariant.met c.end_at-name.ensures.value c.add.ensures;
      passed = every_more _ _ _ (omega arith) c.loop-i.invariant.passed (met_fresh _ _ _ _ _ c.loop-i.invariant.met ∙ ap not new);
    }

pub returns : goal.returns
unfolding distinct
returns c =
    let e : c.loop-i.i ≡ c.args.to = omega arith in
    sym (rw e at c.loop-i.invariant.passed)
