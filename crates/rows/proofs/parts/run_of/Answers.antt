-- A run that ends within the table starts there too, and no product wraps.
use native.Mathlib.Omega.{arith}
use native.Mathlib.Nat.{mul-le-mul_left}
use mathlib.Core.Path.{◌≡◌}
use mathlib.Core.List.{List}
use Prim.Native.Nat.{ℕ, ◌+◌, ◌*◌, ◌≤◌}
use lib.ListN.{length}
use Rattle.table.specs.declared.layout.Column.{Column}
use Rattle.table.specs.Layout.{start_at, word_at}
use Rattle.rows.specs.Parts.{run_of}
use Rattle.rows.proofs.parts.run_of.Goals as goal

-- the run starts where it ends, or before, and ends within the table
run_inside : (w : List ℕ) (first ends : Column) (i from to : ℕ) → start_at w ends i ≤ word_at w ends i
    → first.base + first.width * word_at w ends i ≤ length w → from ≡ start_at w ends i → to ≡ word_at w ends i
    → (first.width * from ≤ first.width * to) × (first.base + first.width * to ≤ length w)
run_inside w first ends i from to rise room p q =
    (mul-le-mul_left first.width (rw (p, q) rise), rw q room)

pub overflow_mul-start : goal.overflow_mul-start
overflow_mul-start c =
    let r = run_inside _ c.args.first c.args.ends c.args.i _ _ c.requires.i_bound c.requires.i_in_bounds c.start_at-from.ensures.value c.end_at-to.ensures.value in
    omega (arith, r.0, r.1)

pub overflow_add-start : goal.overflow_add-start
overflow_add-start c =
    let r = run_inside _ c.args.first c.args.ends c.args.i _ _ c.requires.i_bound c.requires.i_in_bounds c.start_at-from.ensures.value c.end_at-to.ensures.value in
    omega (arith, r.0, r.1)

pub overflow_mul-end : goal.overflow_mul-end
overflow_mul-end c =
    let r = run_inside _ c.args.first c.args.ends c.args.i _ _ c.requires.i_bound c.requires.i_in_bounds c.start_at-from.ensures.value c.end_at-to.ensures.value in
    omega (arith, r.0, r.1)

pub overflow_add-end : goal.overflow_add-end
overflow_add-end c =
    let r = run_inside _ c.args.first c.args.ends c.args.i _ _ c.requires.i_bound c.requires.i_in_bounds c.start_at-from.ensures.value c.end_at-to.ensures.value in
    omega (arith, r.0, r.1)

pub offset_bounds-words-start : goal.offset_bounds-words-start
offset_bounds-words-start c =
    let r = run_inside _ c.args.first c.args.ends c.args.i _ _ c.requires.i_bound c.requires.i_in_bounds c.start_at-from.ensures.value c.end_at-to.ensures.value in
    omega (arith, r.0, r.1)

pub slice_bounds-result-count : goal.slice_bounds-result-count
slice_bounds-result-count c =
    let r = run_inside _ c.args.first c.args.ends c.args.i _ _ c.requires.i_bound c.requires.i_in_bounds c.start_at-from.ensures.value c.end_at-to.ensures.value in
    omega (arith, r.0, r.1)

pub slice_bounds-result-start : goal.slice_bounds-result-start
slice_bounds-result-start c =
    let r = run_inside _ c.args.first c.args.ends c.args.i _ _ c.requires.i_bound c.requires.i_in_bounds c.start_at-from.ensures.value c.end_at-to.ensures.value in
    omega (arith, r.0, r.1)

pub slice_bounds-result-end : goal.slice_bounds-result-end
slice_bounds-result-end c =
    let r = run_inside _ c.args.first c.args.ends c.args.i _ _ c.requires.i_bound c.requires.i_in_bounds c.start_at-from.ensures.value c.end_at-to.ensures.value in
    omega (arith, r.0, r.1)

pub returns : goal.returns
unfolding run_of
returns c = simp (c.start_at-from.ensures.value, c.end_at-to.ensures.value)
