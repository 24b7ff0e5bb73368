use Rattle.std.proofs.Common.{◌≡◌, leb, refl, sym, ◌∙◌, arith}
use Rattle.std.proofs.lemmas.Bool.{le-leb, lt-leb}
use Rattle.names.proofs.CountLaws.{every_none, every_more, every_fails}
use Rattle.table.proofs.RowLaws.{start_zero, start_next}
use Rattle.table.specs.Layout.{word_at, start_at}
use Rattle.columns.specs.Columns.{ends_good}
use Rattle.columns.proofs.ends_good.Goals as goal

pub loop-i-init : goal.loop-i-init
loop-i-init c = record { here = sym (start_zero _ _); passed = every_none _ 0 }

pub returns-then-end-start : goal.returns-then-end-start
unfolding ends_good
returns-then-end-start c =
    simp (every_fails (λ j. leb (start_at c.args.words.now c.args.col j) (word_at c.args.words.now c.args.col j)) 0 c.args.col.rows c.loop-i.i (omega arith) (omega arith) (lt-leb _ _ (omega arith)))

pub loop-i-preserved : goal.loop-i-preserved
loop-i-preserved c =
    record {
      here = c.end_at-end.ensures.value ∙ sym (start_next _ _ _);
      passed = every_more _ 0 _ (omega arith) c.loop-i.invariant.passed (le-leb _ _ (omega arith));
    }

pub returns : goal.returns
unfolding ends_good
returns c =
    let e : c.loop-i.i ≡ c.args.col.rows = omega arith in
    rw (c.loop-i.invariant.here, e, rw e at c.loop-i.invariant.passed) refl
