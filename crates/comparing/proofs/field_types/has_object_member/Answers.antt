-- `has_object_member`: where both kinds are right the members decide, and else nothing does.
use Rattle.table.proofs.AnswerLaws.{kind_eq}
use Rattle.comparing.proofs.KindLaws.{members_decide, no_member}
use Rattle.comparing.proofs.field_types.has_object_member.Goals as goal

pub returns-then-eq : goal.returns-then-eq
returns-then-eq c =
    simp c.is_member_of.ensures (members_decide c.args.table.now.words.now c.args.ty.0 c.args.own.0 c.args.name.0 (simp (c.eq.ensures, kind_eq, c.kind.ensures, c.eq-2.ensures, kind_eq, c.kind-2.ensures) at c.if-eq.true))

pub returns : goal.returns
returns c =
    no_member c.args.table.now.words.now c.args.ty.0 c.args.own.0 c.args.name.0 (simp (c.eq.ensures, kind_eq, c.kind.ensures, c.eq-2.ensures, kind_eq, c.kind-2.ensures) at c.if-eq.false)
