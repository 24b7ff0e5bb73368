use native.Mathlib.Omega.{arith}
use mathlib.Core.Path.{sym, ◌∙◌}
use Rattle.names.proofs.BoolLaws.{passes, fails}
use Rattle.producer.specs.Produced.{FirstBack.not_back, FirstBack.first}
use Rattle.producer.proofs.measure.lowest_back.Goals as goal

pub returns-then-not-reaches_back : goal.returns-then-not-reaches_back
returns-then-not-reaches_back c = not_back (fails c.reaches_back.ensures c.if-not-reaches_back.true-raw)

pub returns-then-reaches_back : goal.returns-then-reaches_back
returns-then-reaches_back c =
    first {u = c.loop-u.u} (omega arith) (passes c.reaches_back.ensures c.if-not-reaches_back.false-raw) (sym c.reaches_back-in-loop-u.ensures ∙ c.if-reaches_back.true) c.loop-u.invariant

pub returns : goal.returns
returns c =
    let k = passes c.reaches_back.ensures c.if-not-reaches_back.false-raw in
    first {u = c.args.t.0} (omega arith) k k (λ s b. c.loop-u.invariant s (omega arith))
