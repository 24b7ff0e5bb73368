-- `validate_edge_defined`: each branch lists what the definition lists there, by the tests that led to it.
use Rattle.records.proofs.Records.{emit_none}
use Rattle.implementing.specs.Interface.{undefined_edge}
use Rattle.implementing.proofs.InterfaceLaws.{interface_none, interface_at}
use Rattle.implementing.proofs.implements_interfaces.validate_edge_defined.Goals as goal

pub returns-in_default-clause-emitted : goal.returns-in_default-clause-emitted
unfolding undefined_edge
returns-in_default-clause-emitted c =
    simp (interface_at _ _ _ c.requires.indexed.rows.laid _ (rw c.edge_name-name.ensures at c.find_interface.ensures) _ c.in_default.is).there (emit_none _)

pub returns-clause-emitted : goal.returns-clause-emitted
unfolding undefined_edge
returns-clause-emitted c =
    simp (interface_none _ _ _ c.requires.indexed.rows.laid _ (rw c.edge_name-name.ensures at c.find_interface.ensures) c.in-None.is, ← c.edge_name-name.ensures, ← c.undefined_definition.ensures) c.put.ensures.emitted
