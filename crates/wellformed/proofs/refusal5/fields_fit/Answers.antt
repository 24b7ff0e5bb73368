use native.Mathlib.Omega.{arith}
use mathlib.Core.Path.{◌≡◌}
use Prim.Native.Nat.{◌≤◌}
use native.Mathlib.Nat.{le_of_lt}
use Rattle.names.proofs.RangeLaws.{every_all}
use Rattle.std.proofs.Common.{rules, tests, ℕ, ◌<◌, List, true}
use Rattle.std.proofs.iter.Serving.{serving}
use Rattle.table.specs.declared.layout.Layout.{Layout}
use Rattle.table.specs.Layout.{word_at, start_at, fields_ends}
use Rattle.table.proofs.LayoutLaws.{in_range, inside_type}
use Rattle.wellformed.proofs.EndLaws.{fields_ends_lem}
use Rattle.columns.proofs.ColumnLaws.{runs}
use Rattle.wellformed.specs.WellFormed.{all_ends_good, field_fits, fields_fit}
use Rattle.wellformed.proofs.refusal5.fields_fit.Goals as goal

pub type_kinds-requires : goal.type_kinds-requires
type_kinds-requires c = in_range c.requires.laid

pub word_at-k-requires : goal.word_at-k-requires
word_at-k-requires c =
    rw (c.type_kinds.ensures, c.index-row.ensures) record { inside = inside_type c.requires.laid 1 (omega arith); i_lt_rows = c.requires.t_lt_types }

pub fields_ends-requires : goal.fields_ends-requires
fields_ends-requires c = in_range c.requires.laid

pub end_at-end-requires : goal.end_at-end-requires
end_at-end-requires c =
    rw (c.fields_ends-2.ensures, c.index-row.ensures) record { inside = inside_type c.requires.laid 4 (omega arith); i_lt_rows = c.requires.t_lt_types }

pub fields_ends-requires-2 : goal.fields_ends-requires-2
fields_ends-requires-2 c = in_range c.requires.laid

pub start_at-start-requires : goal.start_at-start-requires
start_at-start-requires c =
    rw (c.fields_ends.ensures, c.index-row.ensures) record { inside = inside_type c.requires.laid 4 (omega arith); i_le_rows = le_of_lt c.requires.t_lt_types }

-- the type's run of fields lies in the field section
fields_run : (w : List ℕ) (l : Layout) (t start end : ℕ) → all_ends_good w l ≡ true → t < l.types → start ≡ start_at w (fields_ends l) t → end ≡ word_at w (fields_ends l) t → (start ≤ end) × (end ≤ l.fields)
fields_run w l t start end g h s e =
    let r = runs w (fields_ends l) l.fields (fields_ends_lem w l g) in
    rw (s, e) (r.rise t h, r.inside t h)

pub all-requires-clause-callable : goal.all-requires-clause-callable
all-requires-clause-callable c =
    let r =
    fields_run _ _ _ _ _ c.requires.l_value c.requires.t_lt_types (rw (c.fields_ends.ensures, c.index-row.ensures) at c.start_at-start.ensures.value)
    (rw (c.fields_ends-2.ensures, c.index-row.ensures) at c.end_at-end.ensures.value) in
    grind (arith, serving)

pub returns : goal.returns
unfolding fields_fit
returns c =
    let s = rw (c.fields_ends.ensures, c.index-row.ensures) at c.start_at-start.ensures.value in
    let e = rw (c.fields_ends-2.ensures, c.index-row.ensures) at c.end_at-end.ensures.value in
    let k = rw (c.type_kinds.ensures, c.index-row.ensures) at c.word_at-k.ensures in
    let r = fields_run _ _ _ _ _ c.requires.l_value c.requires.t_lt_types s e in
    rw (← s, ← e, ← k) (every_all (field_fits c.args.words.now c.args.l c.word_at-k.result) _ _ _ _ _ r.0 c.all.ensures.ran (λ x b q k. search (rules, tests)))
