-- The name is a type's where it is found, and the kind is read in that type's row.
use Rattle.rows.proofs.FoundTypes.{named, unnamed, kind_named_lem}
use Rattle.lent.proofs.Table.kind_named.Goals as goal

pub returns-in_err-t : goal.returns-in_err-t
returns-in_err-t c = rw c.from_residual.ensures (unnamed _ _ c.args.self.now.findable.indexed.rows.laid _ _ c.look_up.ensures.value c.in_err-t.was)

pub returns : goal.returns
returns c =
    let m = named _ _ c.args.self.now.findable.indexed.rows.laid _ _ c.look_up.ensures.value _ c.in_ok-t.was in
    (m.there, kind_named_lem _ _ _ _ _ m c.kind.ensures)
