-- The calls keep their promises at each of their ends.
use mathlib.Core.Path.{◌≡◌, refl, sym, ap, ◌∙◌}
use mathlib.Core.Bool.{true, false}
use mathlib.Core.Logic.{inr, ⊎_elim}
use mathlib.Core.List.{List, [], ◌++◌}
use Prim.Native.Nat.{ℕ, ◌*◌, ◌≤◌, ◌<◌}
use native.Mathlib.Omega.{arith}
use lib.ListN.{length, drop, replicate, length-replicate}
use lib.Seq.{drop_at}
use Rattle.table.specs.declared.layout.Layout.{Layout}
use Rattle.std.specs.Prelude.{Ok, Err}
use Rattle.table.specs.declared.refusal.Malformed.{Malformed}
use Rattle.wellformed.specs.Answers.{Verdict, verdict_number, Proper}
use Rattle.table.specs.Layout.{layout_of, type_count}
use Rattle.wellformed.specs.WellFormed.{refusal}
use Rattle.records.specs.Records.{flat}
use Rattle.validation.specs.Validation.{records as list_of}
use Rattle.chains.specs.Work.{work_words}
use Rattle.links.specs.Fields.{chain_graph}
use Rattle.chains.specs.Answer.{CycleRows}
use Rattle.links.specs.Chains.{Graph}
use Rattle.chains.specs.Cycles.{PathTo, PathTo.last, PathTo.step}
use Rattle.chains.proofs.Counts.{cycle_count, count_right, cycle_rows, rows_right}
use Rattle.lhakvuni.specs.declared.refusal.Refusal.{Refusal}
use Rattle.lhakvuni.specs.declared.refusal.Refusal.TheVariants.{Malformed as Refused, NoInputObject, ShortWork}
use Rattle.lhakvuni.specs.Answers.{Answer, refusal_number, need_of}
use Rattle.lhakvuni.specs.Promise.{Output}
use Rattle.lhakvuni.specs.Calls.{input_object_at, records_number, cycle_number, Listed, RecordsKept, FirstCycleKept}
use Rattle.lhakvuni.specs.Outputs.{CycleOutput}
use Rattle.counting.specs.Counting.{Counted, counts_in}
use Rattle.counting.proofs.CountingLaws.{counts_part}
use Rattle.lhakvuni.proofs.PromiseLaws.{promise_refused, promise_given}
use Rattle.lhakvuni.proofs.NumberLaws.{types_are, records_refused, cycle_refused, work_short, work_long, records_number_lem, cycle_row, cycle_work, row_below}
use Rattle.names.proofs.BoolLaws.{below_or_from}

-- words cleared twice, and left alone between
pub cleared_again : (k : ℕ) (W X Y Z : List ℕ) → X ≡ replicate k 0 ++ drop k W → Y ≡ X → Z ≡ replicate k 0 ++ drop k Y → Z ≡ replicate k 0 ++ drop k W
cleared_again k W X Y Z first kept again =
    let zeros : length {A = ℕ} (replicate k 0) ≡ k = length-replicate k 0 in
    again ∙ ap (λ (x : List ℕ). replicate k 0 ++ drop k x) (kept ∙ first) ∙ ap (λ (x : List ℕ). replicate k 0 ++ x) (drop_at (replicate k 0) (drop k W) k zeros)

-- every table has a list of records
pub listed : (text w : List ℕ) → Listed text w (list_of text w (cycle_count w))
listed text w = record { counts = cycle_count w; right = count_right w; list = refl }

-- a refusal, whatever its reason
records_refuse : (text w work out : List ℕ) (r : Refusal) → records_number text w work ≡ refusal_number r → ((v : ℕ) → need_of r v ≡ v) → RecordsKept text w work out work out (Err r)
records_refuse text w work out r e need =
    record {
      rows = list_of text w (cycle_count w);
      listed = listed text w;
      promise = promise_refused _ _ _ _ work out r e need;
    }

module _ (text w : List ℕ) (v : Verdict) (e : verdict_number v ≡ refusal text w) where
  -- the table's refusals
  pub records_table : (work out : List ℕ) → Proper v → (m : Malformed) → v ≡ Err m → RecordsKept text w work out work out (Err (Refused m))
  records_table work out p m r = records_refuse text w work out (Refused m) (records_refused v text w e p m r work) (λ v. refl)

  module _ (good : v ≡ Ok tt) (l : Layout) (same : l ≡ layout_of w) where
    pub accepted : refusal text w ≡ 0
    accepted = sym e ∙ ap verdict_number good

    -- a work table that is too short
    pub records_work : (work out : List ℕ) → length work < work_words * l.types → RecordsKept text w work out work out (Err ShortWork)
    records_work work out h = records_refuse text w work out ShortWork (records_number_lem text w accepted work ∙ work_short w l same work_words work h) (λ v. refl)

    -- an output that is too short, or a success: the work words were cleared, the counts filled in, the rows written or not, and the work words cleared again
    pub records_given : (work start mid work' out out' : List ℕ) (a : Answer) → work_words * l.types ≤ length work
        → start ≡ replicate (work_words * l.types) 0 ++ drop (work_words * l.types) work → Counted (chain_graph w) start mid
        → Output (length (list_of text w (counts_in l.types mid))) (flat (list_of text w (counts_in l.types mid))) out out' a
        → work' ≡ replicate (work_words * l.types) 0 ++ drop (work_words * l.types) mid → RecordsKept text w work out work' out' a
    records_given work start mid work' out out' a room p c o z =
        let t = types_are w l same in
        let k : ℕ = work_words * l.types in
        let zeros : length {A = ℕ} (replicate k 0) ≡ k = length-replicate k 0 in
        let behind : drop k start ≡ drop k work = ap (drop k) p ∙ drop_at (replicate k 0) (drop k work) k zeros in
        let kept : drop k mid ≡ drop k work = (rw (← t) at c.rest) ∙ behind in
        let y : work' ≡ replicate k 0 ++ drop k work = z ∙ ap (λ (x : List ℕ). replicate k 0 ++ x) kept in
        record {
          rows = list_of text w (counts_in l.types mid);
          listed = record { counts = counts_in l.types mid; right = counts_part (chain_graph w) l.types t start mid c; list = refl };
          promise = promise_given _ _ _ _ work out work' out' a (records_number_lem text w accepted work ∙ work_long w l same work_words work room) o (rw t at y);
        }

-- a closed chain ends at a type
path_end : {g : Graph} {u v : ℕ} {fs vs : List ℕ} → PathTo g u v fs vs → u < g.types
path_end (last c) = c.type
path_end (step c p) = path_end p

-- every row has the rows of a first cycle, or none: one that is no type's has no closed chain
cycle_rows_lem : (w : List ℕ) (t : ℕ) → (fs : List ℕ) × CycleRows (chain_graph w) t fs
cycle_rows_lem w t =
    ⊎_elim (λ h. (cycle_rows w t, rows_right w t h))
    (λ n. ([], inr (λ fs vs p. let h = path_end p in absurd (omega arith), refl)))
    (below_or_from t (type_count w))

-- the same of `first_cycle`
cycle_refuse : (text w : List ℕ) (t : ℕ) (work out : List ℕ) (r : Refusal) → cycle_number text w t work ≡ refusal_number r → ((v : ℕ) → need_of r v ≡ v) → FirstCycleKept text w t work out work out (Err r)
cycle_refuse text w t work out r e need =
    record {
      rows = (cycle_rows_lem w t).0;
      first = (cycle_rows_lem w t).1;
      promise = promise_refused _ _ _ _ work out r e need;
    }

module _ (text w : List ℕ) (v : Verdict) (e : verdict_number v ≡ refusal text w) where
  pub cycle_table : (t : ℕ) (work out : List ℕ) → Proper v → (m : Malformed) → v ≡ Err m → FirstCycleKept text w t work out work out (Err (Refused m))
  cycle_table t work out p m r = cycle_refuse text w t work out (Refused m) (cycle_refused v text w e p m r t work) (λ v. refl)

  module _ (good : v ≡ Ok tt) (l : Layout) (same : l ≡ layout_of w) (t : ℕ) where
    -- no input object
    pub cycle_no_row : (work out : List ℕ) → input_object_at w t ≡ false → FirstCycleKept text w t work out work out (Err NoInputObject)
    cycle_no_row work out h = cycle_refuse text w t work out NoInputObject (cycle_row text w (accepted text w v e good l same) t work h) (λ v. refl)

    module _ (z : input_object_at w t ≡ true) where
      pub cycle_below : t < l.types
      cycle_below = rw (types_are w l same) (row_below w t z)

      -- a work table that is too short
      pub cycle_work_short : (work out : List ℕ) → length work < work_words * l.types → FirstCycleKept text w t work out work out (Err ShortWork)
      cycle_work_short work out h = cycle_refuse text w t work out ShortWork (cycle_work text w (accepted text w v e good l same) t work z ∙ work_short w l same work_words work h) (λ v. refl)

      -- an output that is too short, or a success
      pub cycle_given : (work work' out out' : List ℕ) (a : Answer) → work_words * l.types ≤ length work → CycleOutput (chain_graph w) t out out' a
          → work' ≡ replicate (work_words * l.types) 0 ++ drop (work_words * l.types) work → FirstCycleKept text w t work out work' out' a
      cycle_given work work' out out' a room o y =
          record {
            rows = o.rows;
            first = o.first;
            promise = promise_given _ _ _ _ work out work' out' a (cycle_work text w (accepted text w v e good l same) t work z ∙ work_long w l same work_words work room) o.output (rw (types_are w l same) at y);
          }
