-- `list_records`: the counts stand behind the marks.
use mathlib.Core.Path.{◌≡◌}
use Prim.Native.Nat.{◌-◌}
use native.Mathlib.Omega.{arith}
use lib.ListN.{length-take, length-drop}
use Rattle.lhakvuni.proofs.calls.list_records.Goals as goal

pub validate_schema-requires : goal.validate_schema-requires
validate_schema-requires c =
    simp (length-take, length-drop) (omega (arith, c.requires, c.trail_at-to.ensures, c.counts_at-from.ensures))

pub returns : goal.returns
returns c =
    let one : c.trail_at-to.result - c.counts_at-from.result ≡ c.args.schema.now.table.layout.types = omega (arith, c.trail_at-to.ensures, c.counts_at-from.ensures) in
    rw (one, c.counts_at-from.ensures) at c.validate_schema.ensures
