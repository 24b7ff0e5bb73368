-- Each promise allows one answer only: two answers that meet it on the same text, words and lent memory are equal, lent memory included. What
-- the work table and the output held before is left as it was or overwritten, and plays no part in the rows and the number.
use mathlib.Core.Path.{◌≡◌, refl, subst}
use mathlib.Core.List.{List}
use Prim.Native.Nat.{ℕ, zero, suc, ◌*◌, ◌<◌}
use native.Mathlib.Omega.{arith}
use lib.ListN.{length}
use Rattle.table.specs.Layout.{type_count}
use Rattle.records.specs.declared.Record.{Record}
use Rattle.records.specs.Records.{each, flat}
use Rattle.validation.specs.Validation.{type_records, records as list_of}
use Rattle.links.specs.Fields.{chain_graph}
use Rattle.chains.proofs.Order.{rows_unique, count_unique}
use Rattle.lhakvuni.specs.Answers.{Answer}
use Rattle.lhakvuni.specs.Promise.{Promised}
use Rattle.chains.specs.Work.{work_words}
use Rattle.lhakvuni.specs.Calls.{work_number, records_number, cycle_number, Listed, RecordsKept, FirstCycleKept}
use Rattle.lhakvuni.proofs.PromiseLaws.{one_answer, same_answer}

-- lists of rules that agree below n
each_same : {A : Type 0} (f g : ℕ → List A) (n : ℕ) → ((t : ℕ) → t < n → f t ≡ g t) → each f n ≡ each g n
unfolding each
each_same f g zero h = refl
each_same f g (suc n) h = rw (each_same f g n (λ t l. h t (let k : t < suc n = omega arith in k)), h n (let k : n < suc n = omega arith in k))

type_same : (text w : List ℕ) (c d : ℕ → ℕ) (t : ℕ) → c t ≡ d t → type_records text w c t ≡ type_records text w d t
unfolding type_records
type_same text w c d t e = rw e

-- the list of records is one
pub one_list : (text w : List ℕ) (rs ss : List Record) → Listed text w rs → Listed text w ss → rs ≡ ss
unfolding list_of
one_list text w rs ss l m =
    let same : (t : ℕ) → t < type_count w → type_records text w l.counts t ≡ type_records text w m.counts t
    = λ t h. type_same text w l.counts m.counts t (count_unique (chain_graph w) t (l.counts t) (m.counts t) (l.right t h) (m.right t h)) in
    rw (l.list, m.list, each_same (type_records text w l.counts) (type_records text w m.counts) (type_count w) same)

module _ (text w work out w₁ o₁ w₂ o₂ : List ℕ) (a b : Answer) where
  pub one_records : RecordsKept text w work out w₁ o₁ a → RecordsKept text w work out w₂ o₂ b → (a ≡ b) × ((w₁ ≡ w₂) × (o₁ ≡ o₂))
  one_records p q =
      let e : q.rows ≡ p.rows = one_list text w q.rows p.rows q.listed p.listed in
      one_answer _ _ _ _ work out w₁ o₁ w₂ o₂ a b p.promise
      (subst (λ (rs : List Record). Promised (records_number text w work) (work_words * type_count w) (length rs) (flat rs) work out w₂ o₂ b) e q.promise)

  pub one_first_cycle : (t : ℕ) → FirstCycleKept text w t work out w₁ o₁ a → FirstCycleKept text w t work out w₂ o₂ b → (a ≡ b) × ((w₁ ≡ w₂) × (o₁ ≡ o₂))
  one_first_cycle t p q =
      let e : q.rows ≡ p.rows = rows_unique (chain_graph w) t q.rows p.rows q.first p.first in
      one_answer _ _ _ _ work out w₁ o₁ w₂ o₂ a b p.promise
      (subst (λ (fs : List ℕ). Promised (cycle_number text w t work) (work_words * type_count w) (length fs) fs work out w₂ o₂ b) e q.promise)

-- the checks look at the work table's length alone
records_length : (text w work work₂ : List ℕ) → length work ≡ length work₂ → records_number text w work ≡ records_number text w work₂
unfolding records_number work_number
records_length text w work work₂ e = rw e

cycle_length : (text w : List ℕ) (t : ℕ) (work work₂ : List ℕ) → length work ≡ length work₂ → cycle_number text w t work ≡ cycle_number text w t work₂
unfolding cycle_number work_number
cycle_length text w t work work₂ e = rw e

-- so the answer is one for all work tables and outputs of the same lengths, whatever they hold
module _ (text w work out work₂ out₂ w₁ o₁ w₂ o₂ : List ℕ) (a b : Answer) (works : length work ≡ length work₂) (outs : length out ≡ length out₂) where
  pub any_memory : RecordsKept text w work out w₁ o₁ a → RecordsKept text w work₂ out₂ w₂ o₂ b → a ≡ b
  any_memory p q =
      let e : q.rows ≡ p.rows = one_list text w q.rows p.rows q.listed p.listed in
      let r : Promised (records_number text w work) (work_words * type_count w) (length p.rows) (flat p.rows) work₂ out₂ w₂ o₂ b
      = rw (records_length text w work work₂ works)
      (subst (λ (rs : List Record). Promised (records_number text w work₂) (work_words * type_count w) (length rs) (flat rs) work₂ out₂ w₂ o₂ b) e q.promise) in
      same_answer _ _ _ _ work out work₂ out₂ outs w₁ o₁ w₂ o₂ a b p.promise r

  pub any_memory_cycle : (t : ℕ) → FirstCycleKept text w t work out w₁ o₁ a → FirstCycleKept text w t work₂ out₂ w₂ o₂ b → a ≡ b
  any_memory_cycle t p q =
      let e : q.rows ≡ p.rows = rows_unique (chain_graph w) t q.rows p.rows q.first p.first in
      let r : Promised (cycle_number text w t work) (work_words * type_count w) (length p.rows) p.rows work₂ out₂ w₂ o₂ b
      = rw (cycle_length text w t work work₂ works)
      (subst (λ (fs : List ℕ). Promised (cycle_number text w t work₂) (work_words * type_count w) (length fs) fs work₂ out₂ w₂ o₂ b) e q.promise) in
      same_answer _ _ _ _ work out work₂ out₂ outs w₁ o₁ w₂ o₂ a b p.promise r
