use native.Mathlib.Omega.{arith}
use mathlib.Core.Path.{sym}
use Prim.Native.Nat.{◌+◌, ◌-◌, ◌/◌, ◌<◌}
use lib.ListN.{length}
use Rattle.rising.proofs.ContainLaws.{contains_at}
use Rattle.rising.proofs.HalfLaws.{between_all, middle_of, look_below, look_above, between_none}
use Rattle.rising.proofs.find.has.Goals as goal

pub loop-from-init : goal.loop-from-init
loop-from-init c = between_all _ _

pub overflow_add-middle : goal.overflow_add-middle
overflow_add-middle c = omega (arith, middle_of _ _ c.loop-from-test.true, c.loop-from.invariant.within)

pub offset_bounds-sorted-middle : goal.offset_bounds-sorted-middle
offset_bounds-sorted-middle c = omega (arith, middle_of _ _ c.loop-from-test.true, c.loop-from.invariant.within)

pub bounds-sorted-middle : goal.bounds-sorted-middle
bounds-sorted-middle c = omega (arith, middle_of _ _ c.loop-from-test.true, c.loop-from.invariant.within)

pub overflow_cast-there : goal.overflow_cast-there
overflow_cast-there c = omega (arith, c.type_inv.sorted (c.loop-from.from + (c.loop-from.to - c.loop-from.from) / 2))

pub returns-then-there-name : goal.returns-then-there-name
returns-then-there-name c =
    let m = middle_of _ _ c.loop-from-test.true in
    let b : c.loop-from.from + (c.loop-from.to - c.loop-from.from) / 2 < length c.args.sorted.now = omega (arith, m.1, c.loop-from.invariant.within) in
    sym (contains_at _ _ _ b c.if-there-name.true)

pub overflow_add-from : goal.overflow_add-from
overflow_add-from c = omega (arith, middle_of _ _ c.loop-from-test.true, c.loop-from.invariant.within)

pub loop-from-smaller-then-there-name-2 : goal.loop-from-smaller-then-there-name-2
loop-from-smaller-then-there-name-2 c = omega (arith, middle_of _ _ c.loop-from-test.true)

pub loop-from-preserved-then-there-name-2 : goal.loop-from-preserved-then-there-name-2
loop-from-preserved-then-there-name-2 c =
    let m = middle_of _ _ c.loop-from-test.true in
    look_below c.requires c.loop-from.invariant _ m.0 m.1 c.if-there-name-2.true

pub loop-from-smaller : goal.loop-from-smaller
loop-from-smaller c = omega (arith, middle_of _ _ c.loop-from-test.true)

pub loop-from-preserved : goal.loop-from-preserved
loop-from-preserved c =
    let m = middle_of _ _ c.loop-from-test.true in
    look_above c.requires c.loop-from.invariant _ m.0 m.1 (omega (arith, c.if-there-name-2.false, c.if-there-name.false))

pub returns : goal.returns
returns c = sym (between_none _ _ _ _ c.loop-from.invariant c.loop-from-test.false)
