-- `put_each`: each row's records stand behind those of the rows before it (`emit_seq`).
use Rattle.std.proofs.Common.{◌≡◌, arith}
use Rattle.records.specs.Each.{most_of_row}
use Rattle.records.proofs.Records.{emit_none, emit_seq, each_zero, each_more}
use Rattle.records.proofs.put_each.Goals as goal

pub loop-i-init : goal.loop-i-init
loop-i-init g c = record { emitted = λ list h. rw (each_zero list) (emit_none _); upper_bound = λ most h. omega arith }

pub used-at-requires : goal.used-at-requires
used-at-requires g c = let b = c.loop-i.invariant.upper_bound most_of_row c.requires.bounded in omega arith

pub overflow_add-rows : goal.overflow_add-rows
overflow_add-rows g c =
    let b = c.loop-i.invariant.upper_bound most_of_row c.requires.bounded in
    let d = c.requires.bounded _ _ _ _ c.loop-i-test.true c.rule-rows.ensures in
    omega arith

pub loop-i-preserved : goal.loop-i-preserved
loop-i-preserved g c =
    record {
      emitted = λ list h. rw (each_more list _) (emit_seq _ _ _ _ _ _ _ _ (c.loop-i.invariant.emitted list h) c.used-at.ensures (h _ _ _ _ c.loop-i-test.true c.rule-rows.ensures));
      upper_bound = λ most h. let a = c.loop-i.invariant.upper_bound most h in let b = h _ _ _ _ c.loop-i-test.true c.rule-rows.ensures in omega arith;
    }

pub returns-clause-emitted : goal.returns-clause-emitted
returns-clause-emitted g c = λ list h. let e : c.loop-i.i ≡ c.args.n = omega arith in rw e at (c.loop-i.invariant.emitted list h)

pub returns-clause-upper_bound : goal.returns-clause-upper_bound
returns-clause-upper_bound g c = λ most h. let e : c.loop-i.i ≡ c.args.n = omega arith in rw e at (c.loop-i.invariant.upper_bound most h)
