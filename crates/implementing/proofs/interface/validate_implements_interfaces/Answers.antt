-- The second list is written to the tail behind the first.
use Rattle.records.proofs.Records.{emit_seq}
use Rattle.implementing.specs.Interface.{implements_records}
use Rattle.implementing.proofs.interface.validate_implements_interfaces.Goals as goal

pub returns-clause-emitted : goal.returns-clause-emitted
unfolding implements_records
returns-clause-emitted c =
    emit_seq _ _ _ _ _ _ _ _ c.validate_undefined_edges-n.ensures.emitted c.used-at.ensures c.validate_transitive_interfaces.ensures.emitted
