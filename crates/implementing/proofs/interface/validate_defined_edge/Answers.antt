-- `validate_defined_edge`: nothing where the name is no interface, and else what the rule lists.
use Rattle.records.proofs.Records.{emit_none}
use Rattle.implementing.proofs.InterfaceLaws.{interface_none, interface_at}
use Rattle.implementing.proofs.interface.validate_defined_edge.Goals as goal

pub returns-in_default-clause-emitted : goal.returns-in_default-clause-emitted
returns-in_default-clause-emitted g c = λ list h.
    simp (interface_none _ _ _ c.args.own.now.table.now.findable.indexed.rows.laid _ (rw c.edge_name-name.ensures at c.find_interface.ensures) c.in_default.is) (emit_none _)

pub rule-requires : goal.rule-requires
rule-requires g c =
    c.requires.callable _ _ _ (interface_at _ _ _ c.args.own.now.table.now.findable.indexed.rows.laid _ c.find_interface.ensures _ c.in-Some.is).below

pub returns : goal.returns
returns g c =
    let m = interface_at _ _ _ c.args.own.now.table.now.findable.indexed.rows.laid _ (rw c.edge_name-name.ensures at c.find_interface.ensures) _ c.in-Some.is in
    record {
      emitted = λ list h. simp (m.there, ← m.row) (h _ _ _ _ _ m.below c.rule.ensures);
      upper_bound = c.requires.bounded _ _ _ _ _ m.below c.rule.ensures;
    }
