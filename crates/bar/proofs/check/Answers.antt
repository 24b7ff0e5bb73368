-- The promise of `records` says that its rows lie in the output.
use Rattle.bar.proofs.RowsFit.{rows_fit}
use Rattle.bar.proofs.check.Goals as goal

pub show_records-requires : goal.show_records-requires
show_records-requires g c = rows_fit _ _ _ _ _ _ _ _ c.records.ensures c.in-Ok.is
