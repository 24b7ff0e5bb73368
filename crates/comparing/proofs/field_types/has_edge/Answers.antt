-- `has_edge`: where both kinds are right the edges decide, and else nothing does.
use Rattle.table.proofs.AnswerLaws.{kind_eq}
use Rattle.comparing.proofs.KindLaws.{edges_decide, no_edge}
use Rattle.comparing.proofs.field_types.has_edge.Goals as goal

pub returns-then-eq-is_composite : goal.returns-then-eq-is_composite
returns-then-eq-is_composite c =
    simp c.is_edge_of.ensures (edges_decide c.args.table.now.words.now c.args.ty.0 c.args.own.0 c.args.name.0 (simp (c.eq.ensures, kind_eq, c.kind.ensures, c.is_composite.ensures, c.from.ensures, c.kind-2.ensures) at c.if-eq-is_composite.true))

pub returns : goal.returns
returns c =
    no_edge c.args.table.now.words.now c.args.ty.0 c.args.own.0 c.args.name.0 (simp (c.eq.ensures, kind_eq, c.kind.ensures, c.is_composite.ensures, c.from.ensures, c.kind-2.ensures) at c.if-eq-is_composite.false)
