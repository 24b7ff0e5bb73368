-- What was counted is what is written; where there is nothing, nothing is.
use mathlib.Core.Path.{refl}
use Rattle.lhakvuni.proofs.OutputLaws.{records_none, records_short, records_done}
use Rattle.lhakvuni.proofs.calls.put_records.Goals as goal

pub returns-then-rows-eq0 : goal.returns-then-rows-eq0
returns-then-rows-eq0 c =
    records_none _ _ _ _ _ c.count_records-rows.ensures.value refl c.count_records-rows.ensures.out_unchanged c.if-rows-eq0.true

pub returns-then-out-need : goal.returns-then-out-need
returns-then-out-need c =
    records_short _ _ _ _ _ c.count_records-rows.ensures.value refl c.count_records-rows.ensures.out_unchanged c.if-out-need.true

pub returns : goal.returns
returns c =
    records_done _ _ _ _ _ c.count_records-rows.ensures.value refl c.count_records-rows.ensures.out_unchanged _ _ c.if-out-need.false c.list_records.ensures.emitted
