-- `validate_union_definition`: the second list is written to the tail behind the first.
use native.Mathlib.Omega.{arith}
use mathlib.Core.Path.{sym, ◌∙◌}
use borrow.Author.Tests.{eq-eqb, ne_eqb}
use Rattle.records.proofs.Records.{emit_seq, emit_skip}
use Rattle.rules.specs.Union.{union_records}
use Rattle.rules.proofs.union_.validate_union_definition.Goals as goal

pub returns-then-member_rows-eq0 : goal.returns-then-member_rows-eq0
unfolding union_records
returns-then-member_rows-eq0 c =
    record { emitted = simp (eq-eqb _ _ (sym c.member_rows.ensures ∙ c.if-member_rows-eq0.true), ← c.empty_member_set.ensures) (emit_seq _ _ _ _ _ _ _ _ c.validate_union_members-n.ensures.emitted c.used-at.ensures c.put.ensures.emitted); upper_bound = omega (arith, c.put.ensures.upper_bound, c.validate_union_members-n.ensures.upper_bound) }

pub returns : goal.returns
unfolding union_records
returns c =
    record { emitted = simp (ne_eqb _ _ (rw c.member_rows.ensures at c.if-member_rows-eq0.false)) (emit_skip _ _ _ _ c.validate_union_members-n.ensures.emitted); upper_bound = omega (arith, c.validate_union_members-n.ensures.upper_bound) }
