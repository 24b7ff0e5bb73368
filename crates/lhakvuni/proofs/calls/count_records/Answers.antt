-- The part at the end of the output is empty, so nothing is written.
use mathlib.Core.Path.{refl}
use Rattle.lhakvuni.proofs.OutputLaws.{end_emitted}
use Rattle.lhakvuni.proofs.calls.count_records.Goals as goal

pub returns : goal.returns
returns c =
    record { value = c.list_records.ensures.emitted.count; upper_bound = c.list_records.ensures.upper_bound; out_unchanged = end_emitted _ _ _ _ _ refl c.list_records.ensures.emitted }
