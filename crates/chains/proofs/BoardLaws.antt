-- Document 01, "Boards for the proof table": the counts of the four boards of chains. A search in steps (specs/Search) shows each: that
-- it finds these rows, or that it fails. And which of their types may be settled.
use mathlib.Core.Path.{◌≡◌, refl}
use mathlib.Core.List.{List, ◌∷◌, []}
use Prim.Native.Nat.{ℕ, suc, zero, ◌<◌}
use native.Mathlib.Omega.{arith}
use lib.ListN.{get_or}
use Rattle.table.specs.Kinds.{input_object_kind}
use Rattle.table.specs.Layout.{name_count, type_count, edge_count, types_at, edges_at, fields_at, word_at, start_at}
use Rattle.rows.specs.Search.{find}
use Rattle.rows.specs.Types.{type_named, defined}
use Rattle.links.specs.Chains.{Chain}
use Rattle.chains.specs.Cycles.{FirstCycle, NoCycle}
use Rattle.links.specs.Fields.{input_object_named, chain_target, chains_end, chain_graph}
use Rattle.chains.specs.Answer.{Settled}
use Rattle.chains.specs.Search.{Fail.done, Fail.skip, Fail.enter, Find.here, Find.below}
use Rattle.chains.specs.Boards.{self_words, list_words, null_words, tail_words, ring_words}
use Rattle.chains.proofs.Correct.{blank_good, no_cycle, first_cycle}
use Rattle.chains.proofs.Counts.{cycle_count, first_count, none_zero}

-- with every definition of the graph open
leads : List ℕ → ℕ → ℕ
unfolding chain_target input_object_named input_object_kind chains_end type_named defined find name_count type_count edge_count types_at edges_at fields_at word_at start_at
leads w f = chain_target w f

zeros : (v : ℕ) → v < 2 → get_or {A = ℕ} (0 ∷ 0 ∷ []) v 0 ≡ 0
zeros zero l = refl
zeros (suc zero) l = refl
zeros (suc (suc v)) l = absurd (omega arith)

-- A{a: A!}: A 1
pub self_A : FirstCycle (chain_graph self_words) 0 (0 ∷ [])
unfolding leads
self_A = first_cycle (chain_graph self_words) 0 (0 ∷ 0 ∷ []) (blank_good (chain_graph self_words) 0 (0 ∷ 0 ∷ []) (λ v l. zeros v (omega arith))) (omega arith) (omega arith) (here {f = 0} (omega arith) (omega arith) refl)

pub self_board : cycle_count self_words 0 ≡ 1
unfolding leads
self_board = first_count self_words 0 (omega arith) (0 ∷ []) self_A

-- A{a: [A!]!}: A 0
pub list_A : NoCycle (chain_graph list_words) 0
unfolding leads
list_A =
    no_cycle (chain_graph list_words) 0 (0 ∷ 0 ∷ []) (blank_good (chain_graph list_words) 0 (0 ∷ 0 ∷ []) (λ v l. zeros v (omega arith))) (omega arith) (omega arith)
    (skip {f = 0} (omega arith) (λ l. absurd (omega arith)) (done {f = 1} (omega arith)))

pub list_board : cycle_count list_words 0 ≡ 0
unfolding leads
list_board = none_zero list_words 0 (omega arith) list_A

-- A{a: A}: A 0
pub null_A : NoCycle (chain_graph null_words) 0
unfolding leads
null_A =
    no_cycle (chain_graph null_words) 0 (0 ∷ 0 ∷ []) (blank_good (chain_graph null_words) 0 (0 ∷ 0 ∷ []) (λ v l. zeros v (omega arith))) (omega arith) (omega arith)
    (skip {f = 0} (omega arith) (λ l. absurd (omega arith)) (done {f = 1} (omega arith)))

pub null_board : cycle_count null_words 0 ≡ 0
unfolding leads
null_board = none_zero null_words 0 (omega arith) null_A

-- A{b: B!} B{b: B!}: A 0, B 1
pub tail_A : NoCycle (chain_graph tail_words) 0
unfolding leads
tail_A =
    no_cycle (chain_graph tail_words) 0 (0 ∷ 0 ∷ []) (blank_good (chain_graph tail_words) 0 (0 ∷ 0 ∷ []) zeros) (omega arith) (omega arith)
    (enter {f = 0} (omega arith) (record { type = omega arith; room = omega arith; other = omega arith; fresh = refl })
    (skip {f = 1} (omega arith) (λ _. (omega arith, omega arith)) (done {f = 2} (omega arith)))
    (done {f = 1} (omega arith)))

pub tail_B : FirstCycle (chain_graph tail_words) 1 (1 ∷ [])
unfolding leads
tail_B = first_cycle (chain_graph tail_words) 1 (0 ∷ 0 ∷ []) (blank_good (chain_graph tail_words) 1 (0 ∷ 0 ∷ []) zeros) (omega arith) (omega arith) (here {f = 1} (omega arith) (omega arith) refl)

pub tail_board : (cycle_count tail_words 0 ≡ 0) × (cycle_count tail_words 1 ≡ 1)
unfolding leads
tail_board = (none_zero tail_words 0 (omega arith) tail_A, first_count tail_words 1 (omega arith) (1 ∷ []) tail_B)

-- A{b: B!} B{a: A!}: A 2, B 2
pub ring_A : FirstCycle (chain_graph ring_words) 0 (0 ∷ 1 ∷ [])
unfolding leads
ring_A =
    first_cycle (chain_graph ring_words) 0 (0 ∷ 0 ∷ []) (blank_good (chain_graph ring_words) 0 (0 ∷ 0 ∷ []) zeros) (omega arith) (omega arith)
    (below {f = 0} (omega arith) (record { type = omega arith; room = omega arith; other = omega arith; fresh = refl })
    (here {f = 1} (omega arith) (omega arith) refl))

pub ring_B : FirstCycle (chain_graph ring_words) 1 (1 ∷ 0 ∷ [])
unfolding leads
ring_B =
    first_cycle (chain_graph ring_words) 1 (0 ∷ 0 ∷ []) (blank_good (chain_graph ring_words) 1 (0 ∷ 0 ∷ []) zeros) (omega arith) (omega arith)
    (below {f = 1} (omega arith) (record { type = omega arith; room = omega arith; other = omega arith; fresh = refl })
    (here {f = 0} (omega arith) (omega arith) refl))

pub ring_board : (cycle_count ring_words 0 ≡ 2) × (cycle_count ring_words 1 ≡ 2)
unfolding leads
ring_board = (first_count ring_words 0 (omega arith) (0 ∷ 1 ∷ []) ring_A, first_count ring_words 1 (omega arith) (1 ∷ 0 ∷ []) ring_B)

-- A{a: A}: A may be settled
null_chains : (v f u : ℕ) → Chain (chain_graph null_words) v f u → v < 1 → ⊥
unfolding leads
null_chains zero zero u c l = let e : 1 ≡ u = c.leads in let t : u < 1 = c.type in omega arith
null_chains zero (suc f) u c l = let h : suc f < 1 = c.high in omega arith
null_chains (suc v) f u c l = omega arith

pub null_settled : Settled (chain_graph null_words) (2 ∷ 0 ∷ [])
unfolding leads
null_settled =
    record {
      marking = record {
        room = omega arith;
        most = λ v l. let e : v ≡ 0 = omega arith in rw e (omega arith);
        closed = λ v f u l e c. absurd (null_chains v f u c l);
        none = λ v l e. let z : v ≡ 0 = omega arith in rw z null_A;
      };
      calm = λ v l. let e : v ≡ 0 = omega arith in rw e (omega arith);
    }

-- A{b: B!} B{a: A!}: neither may be
pub ring_settled : Settled (chain_graph ring_words) (2 ∷ 2 ∷ 0 ∷ 0 ∷ []) → ⊥
unfolding leads
ring_settled s = let r = ring_A in s.marking.none 0 (omega arith) refl _ _ r.cycle.path
