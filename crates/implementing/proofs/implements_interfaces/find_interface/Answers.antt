-- `find_interface`: the name is a type's where it is found, and that type's kind is read.
use Rattle.table.specs.declared.kinds.Kind.TheVariants.{Interface}
use Rattle.table.proofs.AnswerLaws.{kind_is}
use Rattle.rows.specs.Types.{is_interface}
use Rattle.rows.proofs.FoundTypes.{named, unnamed, kind_named_lem}
use Rattle.implementing.specs.Rules.{found_interface}
use Rattle.implementing.proofs.implements_interfaces.find_interface.Goals as goal

pub returns-in_err-t : goal.returns-in_err-t
unfolding found_interface is_interface
returns-in_err-t c = simp (c.from_residual.ensures, unnamed _ _ c.requires.rows.laid _ _ c.look_up.ensures c.in_err-t.was)

pub kind_of-requires : goal.kind_of-requires
kind_of-requires c =
    record { sound_rows = c.requires.rows; t_lt_types = (named _ _ c.requires.rows.laid _ _ c.look_up.ensures _ c.in_ok-t.was).below }

pub returns-then-eq : goal.returns-then-eq
unfolding found_interface is_interface
returns-then-eq c =
    let m = named _ _ c.requires.rows.laid _ _ c.look_up.ensures _ c.in_ok-t.was in
    simp (m.there, kind_is _ Interface _ _ _ (kind_named_lem _ _ _ _ _ m c.kind_of.ensures) c.eq.ensures c.if-eq.true, ← m.row)

pub returns : goal.returns
unfolding found_interface is_interface
returns c =
    let m = named _ _ c.requires.rows.laid _ _ c.look_up.ensures _ c.in_ok-t.was in
    simp (m.there, kind_is _ Interface _ _ _ (kind_named_lem _ _ _ _ _ m c.kind_of.ensures) c.eq.ensures c.if-eq.false)
