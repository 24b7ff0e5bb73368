-- The two calls on evidence keep their promises at each of their ends, and the promises allow one answer only.
use mathlib.Core.Path.{◌≡◌, refl, sym, ap, subst, ◌∙◌}
use mathlib.Core.Logic.{◌≢◌, ⊎_elim}
use mathlib.Core.List.{List, ◌++◌}
use Prim.Native.Nat.{ℕ, zero, suc, ◌*◌, ◌≤◌, ◌<◌}
use native.Mathlib.Omega.{arith}
use mathlib.Core.Bool.{Bool, true, false}
use Rattle.std.specs.Prelude.{cond, Ok, Err}
use lib.Dec.{eqb}
use lib.ListN.{length, take, drop, replicate, take-append-drop}
use borrow.Author.Tests.{eqb-true, eqb-false}
use Rattle.names.proofs.BoolLaws.{decide}
use Rattle.table.specs.declared.layout.Layout.{Layout}
use Rattle.table.specs.declared.refusal.Malformed.{Malformed}
use Rattle.table.specs.Refusals.{wrong_evidence, short_out}
use Rattle.wellformed.specs.Answers.{Verdict, verdict_number, Proper}
use Rattle.table.specs.Layout.{layout_of, type_count}
use Rattle.wellformed.specs.WellFormed.{refusal}
use Rattle.links.specs.Chains.{Graph}
use Rattle.links.specs.Fields.{chain_graph}
use Rattle.evidence.specs.Words.{evidence_words}
use Rattle.evidence.specs.Judged.{judged_of}
use Rattle.evidence.proofs.Exists.{evidence, evidence_canonical}
use Rattle.evidence.proofs.Unique.{canonical_unique}
use Rattle.producer.specs.Produced.{Rooms, Made}
use Rattle.lhakvuni.specs.declared.refusal.Refusal.{Refusal}
use Rattle.lhakvuni.specs.declared.refusal.Refusal.TheVariants.{Malformed as Refused, NoInputObject, WrongEvidence, ShortWork, ShortOut}
use Rattle.lhakvuni.specs.Answers.{Answer, Judgement, refusal_number, need_of, judgement_of, judgement_number}
use Rattle.lhakvuni.specs.Promise.{Output, Promised}
use Rattle.lhakvuni.specs.Calls.{or_else, evidence_number, judge_number, make_number, work_number, JudgedKept, EvidenceKept}
use Rattle.lhakvuni.proofs.PromiseLaws.{refusal_of, refusal_back, some_number, output_short, output_done, promise_refused, promise_given, one_answer, same_answer}
use Rattle.lhakvuni.proofs.NumberLaws.{types_are, refusal_most, judge_refused, make_refused, judge_number_lem, make_number_lem, evidence_other, evidence_right, work_short, work_long}
use Rattle.lhakvuni.proofs.CallLaws.{accepted}

-- a refusal but 10 is that of its number
refused_is : (j : Judgement) (n : ℕ) → judgement_number j ≡ n → n ≢ 0 → n ≢ short_out → j ≡ Err (refusal_of n 0)
refused_is (Ok judged) n e h k = absurd (h (sym e))
refused_is (Err r) n e h k =
    let plain : need_of r 0 ≡ 0 = no_need r (λ q. k (sym e ∙ q)) in
    ap Err (sym (refusal_back r) ∙ rw (e, plain) refl)
  where
    no_need : (r : Refusal) → refusal_number r ≢ short_out → need_of r 0 ≡ 0
    no_need (Refused m) d = refl
    no_need NoInputObject d = refl
    no_need WrongEvidence d = refl
    no_need ShortWork d = refl
    no_need (ShortOut need) d = absurd (d refl)

-- evidence is never refused by 10
not_short : (text w ev : List ℕ) → judge_number text w ev ≢ short_out
unfolding judge_number evidence_number
not_short text w ev e = cases (refusal text w) _ (refusal_most text w) (other (eqb (length ev) (evidence_words * type_count w))) e
  where
    other : (b : Bool) → cond b 0 wrong_evidence ≤ 8
    other true = omega arith
    other false = omega arith

    cases : (n m : ℕ) → n ≤ 6 → m ≤ 8 → or_else n m ≢ short_out
    cases zero m p q e = absurd (omega arith)
    cases (suc n) m p q e = absurd (omega arith)

judge_refuse : (text w ev : List ℕ) (r : Refusal) → judge_number text w ev ≡ refusal_number r → JudgedKept text w ev (Err r)
judge_refuse text w ev r e = record { number_is = sym e; judged = λ z. absurd (omega (arith, some_number r)) }

module _ (text w : List ℕ) (v : Verdict) (e : verdict_number v ≡ refusal text w) (ev : List ℕ) where
  -- the table's refusals
  pub judge_table : Proper v → (m : Malformed) → v ≡ Err m → JudgedKept text w ev (Err (Refused m))
  judge_table p m r = judge_refuse text w ev (Refused m) (judge_refused v text w e p m r ev)

  module _ (good : v ≡ Ok tt) (l : Layout) (same : l ≡ layout_of w) where
    -- evidence of another length
    pub judge_length : (length ev ≡ evidence_words * l.types → ⊥) → JudgedKept text w ev (Err WrongEvidence)
    judge_length h = judge_refuse text w ev WrongEvidence (judge_number_lem text w (accepted text w v e good l same) ev ∙ evidence_other w l same ev h)

    pub judge_given : (j : Judgement) → length ev ≡ evidence_words * l.types → j ≡ judgement_of (judged_of w ev) → JudgedKept text w ev j
    judge_given j h r =
        let z : judge_number text w ev ≡ 0 = judge_number_lem text w (accepted text w v e good l same) ev ∙ evidence_right w l same ev h in
        record { number_is = ap judgement_number r ∙ sym z; judged = λ _. r }

-- two judgements that meet the promise are equal
pub one_judgement : (text w ev : List ℕ) (i j : Judgement) → JudgedKept text w ev i → JudgedKept text w ev j → i ≡ j
one_judgement text w ev i j p q =
    ⊎_elim
    (λ z. let e = eqb-true (judge_number text w ev) 0 z in p.judged e ∙ sym (q.judged e))
    (λ z. let n = eqb-false (judge_number text w ev) 0 z in refused_is i _ p.number_is n (not_short text w ev) ∙ sym (refused_is j _ q.number_is n (not_short text w ev)))
    (decide (eqb (judge_number text w ev) 0))

-- the evidence that was made
made_output : (g : Graph) (out out' : List ℕ) (n : ℕ) → Made g out out' → evidence_words * g.types ≤ length out → n ≡ g.types
    → Output g.types (take (evidence_words * g.types) out') out out' (Ok n)
made_output g out out' n m h e =
    let s = m.canonical.size in
    let r : out' ≡ take (evidence_words * g.types) out' ++ drop (length (take (evidence_words * g.types) out')) out
    = sym (take-append-drop (evidence_words * g.types) out') ∙ ap (λ (x : List ℕ). take (evidence_words * g.types) out' ++ x) (m.rest ∙ ap (λ (x : ℕ). drop x out) (sym s)) in
    output_done g.types (take (evidence_words * g.types) out') out out' (Ok n) (omega (arith, s)) (ap Ok e) r

-- the producer
make_refuse : (text w work out : List ℕ) (r : Refusal) → make_number text w work ≡ refusal_number r → ((v : ℕ) → need_of r v ≡ v) → EvidenceKept text w work out work out (Err r)
make_refuse text w work out r e need =
    record {
      rows = evidence (chain_graph w);
      canonical = evidence_canonical (chain_graph w);
      promise = promise_refused _ _ _ _ work out r e need;
    }

module _ (text w : List ℕ) (v : Verdict) (e : verdict_number v ≡ refusal text w) where
  -- the table's refusals
  pub make_table : (work out : List ℕ) → Proper v → (m : Malformed) → v ≡ Err m → EvidenceKept text w work out work out (Err (Refused m))
  make_table work out p m r = make_refuse text w work out (Refused m) (make_refused v text w e p m r work) (λ v. refl)

  module _ (good : v ≡ Ok tt) (l : Layout) (same : l ≡ layout_of w) (work out : List ℕ) where
    -- a work table that is too short
    pub make_work : length work < evidence_words * l.types → EvidenceKept text w work out work out (Err ShortWork)
    make_work h = make_refuse text w work out ShortWork (make_number_lem text w (accepted text w v e good l same) work ∙ work_short w l same evidence_words work h) (λ v. refl)

    module _ (room : evidence_words * l.types ≤ length work) where
      fits : make_number text w work ≡ 0
      fits = make_number_lem text w (accepted text w v e good l same) work ∙ work_long w l same evidence_words work room

      -- an output that is too short
      pub make_short : (work' : List ℕ) (need : ℕ) → need ≡ evidence_words * l.types → length out < need
          → work' ≡ replicate need 0 ++ drop need work → EvidenceKept text w work out work' out (Err (ShortOut need))
      make_short work' need a h c =
          let n : need ≡ evidence_words * type_count w = rw (types_are w l same) at a in
          let s = (evidence_canonical (chain_graph w)).size in
          let k : need ≡ length (evidence (chain_graph w)) = n ∙ sym s in
          record {
            rows = evidence (chain_graph w);
            canonical = evidence_canonical (chain_graph w);
            promise = promise_given _ _ _ _ work out work' out (Err (ShortOut need)) fits (output_short _ (evidence (chain_graph w)) out (Err (ShortOut need)) (rw k at h) (ap (λ (x : ℕ). Err (ShortOut x)) k)) (rw n at c);
          }

      pub make_rooms : evidence_words * l.types ≤ length out → Rooms (type_count w) work out
      make_rooms h = record { work_room = rw (← types_are w l same) room; out_room = rw (← types_are w l same) h }

      -- a success
      pub make_given : (work' out' : List ℕ) → evidence_words * l.types ≤ length out → Made (chain_graph w) out out'
          → work' ≡ replicate (evidence_words * type_count w) 0 ++ drop (evidence_words * type_count w) work
          → EvidenceKept text w work out work' out' (Ok l.types)
      make_given work' out' h m c =
          record {
            rows = take (evidence_words * type_count w) out';
            canonical = m.canonical;
            promise = promise_given _ _ _ _ work out work' out' (Ok l.types) fits (made_output (chain_graph w) out out' l.types m (rw (types_are w l same) at h) (types_are w l same)) c;
          }

-- two answers that meet the producer's promise are equal, lent memory included
pub one_evidence : (text w work out w₁ o₁ w₂ o₂ : List ℕ) (a b : Answer) → EvidenceKept text w work out w₁ o₁ a → EvidenceKept text w work out w₂ o₂ b
    → (a ≡ b) × ((w₁ ≡ w₂) × (o₁ ≡ o₂))
one_evidence text w work out w₁ o₁ w₂ o₂ a b p q =
    let e : q.rows ≡ p.rows = canonical_unique (chain_graph w) q.rows p.rows q.canonical p.canonical in
    one_answer _ _ _ _ work out w₁ o₁ w₂ o₂ a b p.promise
    (subst (λ (rows : List ℕ). Promised (make_number text w work) (evidence_words * type_count w) (type_count w) rows work out w₂ o₂ b) e q.promise)

make_length : (text w work work₂ : List ℕ) → length work ≡ length work₂ → make_number text w work ≡ make_number text w work₂
unfolding make_number work_number
make_length text w work work₂ e = rw e

-- and the answer is one for all work tables and outputs of the same lengths, whatever they hold
pub any_memory_evidence : (text w work out work₂ out₂ w₁ o₁ w₂ o₂ : List ℕ) (a b : Answer) → length work ≡ length work₂ → length out ≡ length out₂
    → EvidenceKept text w work out w₁ o₁ a → EvidenceKept text w work₂ out₂ w₂ o₂ b → a ≡ b
any_memory_evidence text w work out work₂ out₂ w₁ o₁ w₂ o₂ a b works outs p q =
    let e : q.rows ≡ p.rows = canonical_unique (chain_graph w) q.rows p.rows q.canonical p.canonical in
    let r : Promised (make_number text w work) (evidence_words * type_count w) (type_count w) p.rows work₂ out₂ w₂ o₂ b
    = rw (make_length text w work work₂ works)
    (subst (λ (rows : List ℕ). Promised (make_number text w work₂) (evidence_words * type_count w) (type_count w) rows work₂ out₂ w₂ o₂ b) e q.promise) in
    same_answer _ _ _ _ work out work₂ out₂ outs w₁ o₁ w₂ o₂ a b p.promise r
