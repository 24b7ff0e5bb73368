-- The six passes one after the other leave the canonical evidence.
use mathlib.Core.Path.{◌≡◌, refl, sym, ◌∙◌}
use mathlib.Core.Logic.{⊎_elim, ◌≢◌}
use mathlib.Core.List.{List, ◌++◌}
use Prim.Native.Nat.{ℕ, ◌+◌, ◌*◌, ◌≤◌, ◌<◌}
use native.Mathlib.Omega.{arith}
use lib.ListN.{length, get_or, take, drop, replicate, length-take}
use lib.Seq.{get_or-take}
use Rattle.links.specs.Chains.{Graph}
use Rattle.table.specs.declared.layout.Layout.{Layout}
use Rattle.table.specs.Layout.{none, type_count}
use Rattle.evidence.specs.declared.row.EvidenceColumn.{EvidenceColumn}
use Rattle.evidence.specs.declared.row.EvidenceColumn.TheVariants.{Number, OutField, OutDistance, InField, InDepth}
use Rattle.evidence.specs.Words.{evidence_words, number, leader, out_field, out_distance, in_field, in_depth}
use Rattle.evidence.specs.Canonical.{Marks, Marks.on, Marks.off, Row, Canonical}
use Rattle.chains.specs.Work.{trail_at}
use Rattle.searching.specs.Search.{Cleared}
use Rattle.producer.specs.Produced.{Filled, NumberIs, LeaderIs, WordIs, Right, AllRight, measures, ranks, levels, Whole, PassKept, Rooms}
use Rattle.rows.specs.Readable.{SoundRows}
use Rattle.evidence.proofs.ChainLaws.{chained}
use Rattle.evidence.proofs.Unique.{Agree, agree_back}
use Rattle.searching.proofs.Reach.{zeros_cleared}
use Rattle.chains.proofs.RestLaws.{rest_behind}
use Rattle.producer.proofs.PassLaws.{led_on, led_off, led_kept, numbered_kept, leader_kept, word_as, cleared_join}
use Rattle.producer.proofs.ChoiceLaws.{word_none, word_some, measured_kept, column_agree, out_as, in_as}
use Rattle.chains.proofs.Marks.{same_or_not}

module _ (g : Graph) where
  -- a pass over every row
  abbrev Pass : EvidenceColumn → List ℕ → List ℕ → Type 0
  Pass k W X = Filled g k g.types W X

  -- with the leaders, distances and depths
  pub leveled : {O X Y W W' W'' : List ℕ} → AllRight g ranks O → Pass OutDistance O X → Pass InDepth X Y → Cleared (trail_at g.types) W W' → Cleared (trail_at g.types) W' W''
      → PassKept g.types (AllRight g levels) O Y W W''
  leveled {O} {X} {Y} h f₃ f₅ c d =
      record {
        right = (
          numbered_kept g f₅.column (omega arith) (numbered_kept g f₃.column (omega arith) h.0),
          (
            led_kept g f₅.column (omega arith) (led_kept g f₃.column (omega arith) h.1.0),
            (
              λ t l.
                  let e : leader Y t ≡ leader O t = leader_kept g f₅.column (omega arith) t ∙ leader_kept g f₃.column (omega arith) t in
                  rw (f₅.column.others t 3 (omega arith) (omega arith)) (word_as (sym e) (λ p. rw e p) (f₃.words t l)),
              (
                λ t l.
                    let e : leader Y t ≡ leader X t = leader_kept g f₅.column (omega arith) t in
                    word_as (sym e) (λ p. rw e p) (f₅.words t l),
                tt,
              ),
            ),
          ),
        );
        size = f₅.column.size ∙ f₃.column.size;
        rest = f₅.column.rest ∙ f₃.column.rest;
        cleared = cleared_join c d;
      }

  -- a row from its words
  row_of : (ev : List ℕ) (t : ℕ) → g.types ≤ none → NumberIs g t (number ev t) → LeaderIs g t (leader ev t) → WordIs g OutDistance ev t (out_distance ev t)
      → WordIs g InDepth ev t (in_depth ev t) → WordIs g OutField ev t (out_field ev t) → WordIs g InField ev t (in_field ev t) → Row g ev t
  row_of ev t small n h d p o i = record { number_word = n; marks = ⊎_elim none_row some_row (same_or_not (leader ev t) none) }
    where
      none_row : leader ev t ≡ none → Marks g ev t
      none_row e =
          off
          (record {
            not_closed = led_off g small h e;
            leader_none = e;
            out_none = word_none o e;
            distance_none = word_none d e;
            in_none = word_none i e;
            depth_none = word_none p e;
          })

      some_row : leader ev t ≢ none → Marks g ev t
      some_row m =
          let (c, l) = led_on g h m in
          on
          (record {
            closed = c;
            leader_word = l;
            distance_word = word_some d m;
            depth_word = word_some p m;
            out_word = word_some o m;
            in_none = (word_some i m).0;
            in_word = (word_some i m).1;
          })

  module _ (Z U W : List ℕ) (small : g.types ≤ none) (room : evidence_words * g.types ≤ length W) (numbers : Right g Number Z) (m : AllRight g measures Z)
      (f₂ : Pass OutField Z U) (f₄ : Pass InField U W) where
    ev : List ℕ
    ev = take (evidence_words * g.types) W

    -- the words of the front
    at : (t d : ℕ) → t < g.types → d < evidence_words → get_or ev (evidence_words * t + d) 0 ≡ get_or W (evidence_words * t + d) 0
    unfolding ev
    at t d l b = get_or-take (evidence_words * g.types) W (evidence_words * t + d) 0 (omega arith)

    -- so the front agrees with the whole
    front : Agree g.types W ev
    front =
        record {
          leaders = λ t l. sym (at t 1 l (omega arith));
          distances = λ t l. sym (at t 3 l (omega arith));
          depths = λ t l. sym (at t 5 l (omega arith));
        }

    -- the passes over the fields change no measure
    from_Z : Agree g.types U Z
    from_Z = column_agree g f₂.column (omega arith) (omega arith) (omega arith)

    from_U : Agree g.types W U
    from_U = column_agree g f₄.column (omega arith) (omega arith) (omega arith)

    -- what was right is right at the end
    numbers_W : Right g Number W
    numbers_W = numbered_kept g f₄.column (omega arith) (numbered_kept g f₂.column (omega arith) numbers)

    measured_W : AllRight g measures W
    measured_W = measured_kept g f₄.column (omega arith) (omega arith) (omega arith) (measured_kept g f₂.column (omega arith) (omega arith) (omega arith) m)

    -- the fields, read at the end
    out_word : (t : ℕ) → t < g.types → WordIs g OutField ev t (out_field ev t)
    out_word t l =
        rw (at t 2 l (omega arith), f₄.column.others t 2 (omega arith) (omega arith))
        (out_as g front t _ l (out_as g (agree_back from_U) t _ l (out_as g (agree_back from_Z) t _ l (f₂.words t l))))

    in_word : (t : ℕ) → t < g.types → WordIs g InField ev t (in_field ev t)
    in_word t l = rw (at t 4 l (omega arith)) (in_as g front t _ l (in_as g (agree_back from_U) t _ l (f₄.words t l)))

    -- every row
    row : (t : ℕ) → t < g.types → Row g ev t
    row t l =
        let e = at t 1 l (omega arith) in
        row_of ev t small
        (rw (at t 0 l (omega arith)) (numbers_W t l))
        (rw e (measured_W.0 t l))
        (rw (at t 3 l (omega arith)) (word_as (sym e) (λ p. rw e p) (measured_W.1.0 t l)))
        (rw (at t 5 l (omega arith)) (word_as (sym e) (λ p. rw e p) (measured_W.1.1.0 t l)))
        (out_word t l)
        (in_word t l)

    -- the size
    ev_size : length ev ≡ evidence_words * g.types
    unfolding ev
    ev_size = length-take (evidence_words * g.types) W ∙ omega arith

    -- the theorem
    pub assembled : Canonical g (take (evidence_words * g.types) W)
    unfolding ev
    assembled = record { size = ev_size; row = row }

-- with all of these, the fields
pub fitted : (g : Graph) {O X Y W W' W'' : List ℕ} → g.types ≤ none → evidence_words * g.types ≤ length O → AllRight g levels O
    → Filled g OutField g.types O X → Filled g InField g.types X Y
    → Cleared (trail_at g.types) W W' → Cleared (trail_at g.types) W' W'' → PassKept g.types (Whole g) O Y W W''
fitted g {O} {X} {Y} few room h f₂ f₄ c d =
    let size : length Y ≡ length O = f₄.column.size ∙ f₂.column.size in
    record {
      right = assembled g O X Y few (omega arith) h.0 h.1 f₂ f₄;
      size = size;
      rest = f₄.column.rest ∙ f₂.column.rest;
      cleared = cleared_join c d;
    }

-- before the passes the work words are cleared
module _ {w : List ℕ} {l : Layout} {O W Y : List ℕ} (s : SoundRows w l) (r : Rooms (type_count w) W O)
    (e : Y ≡ replicate (evidence_words * l.types) 0 ++ drop (evidence_words * l.types) W) where
  cleared_first : Cleared (evidence_words * type_count w) W Y
  cleared_first = let m = r.work_room in rw (e, (chained s).types) (zeros_cleared (evidence_words * type_count w) W (omega arith))

  -- after them all are cleared, and the words behind are those of the start
  module _ {Z : List ℕ} (c : Cleared (trail_at (type_count w)) Y Z) where
    pub cleared_last : replicate (evidence_words * l.types) 0 ++ drop (evidence_words * l.types) Z
        ≡ replicate (evidence_words * type_count w) 0 ++ drop (evidence_words * type_count w) W
    cleared_last =
        let end : ℕ = evidence_words * type_count w in
        let x : drop end Z ≡ drop end Y = rest_behind (trail_at (type_count w)) end Y Z (omega arith) c.rest in
        rw ((chained s).types, x ∙ cleared_first.rest) refl
