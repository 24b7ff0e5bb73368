-- Both names lie in the text, since all names do; where they start at one place, their ends decide.
use native.Mathlib.Omega.{arith}
use Prim.Native.Nat.{◌-◌, ◌<◌}
use Rattle.name_section.proofs.TextLaws.{name_in, rises_same}
use Rattle.name_section.proofs.name_rises.Goals as goal

pub returns-then-name_start : goal.returns-then-name_start
returns-then-name_start c =
    let same = rw (c.name_start.ensures.value, c.name_start-2.ensures.value) at c.if-name_start.true in
    simp (c.name_end.ensures, c.name_end-then-name_start.ensures) (rises_same _ _ _ c.requires.l_value _ c.requires.n_lt_names c.if-n-eq0.false same)

pub name_bytes-requires : goal.name_bytes-requires
name_bytes-requires c =
    let h : c.args.n.0 - 1 < c.args.l.names = omega arith in
    record { laid = c.requires.laid; n_lt_names = h; n_in_bounds = name_in _ _ _ c.requires.l_value (c.args.n.0 - 1) h }

pub name_bytes-requires-2 : goal.name_bytes-requires-2
name_bytes-requires-2 c =
    record { laid = c.requires.laid; n_lt_names = c.requires.n_lt_names; n_in_bounds = name_in _ _ _ c.requires.l_value c.args.n.0 c.requires.n_lt_names }
