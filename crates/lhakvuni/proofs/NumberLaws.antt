-- The first refusal of a call, by the checks in their order.
use mathlib.Core.Path.{◌≡◌, refl, sym, ap, subst, ◌∙◌}
use mathlib.Core.Bool.{Bool, true, false}
use mathlib.Core.Logic.{◌≢◌}
use mathlib.Core.List.{List}
use Prim.Native.Nat.{ℕ, zero, suc, ◌*◌, ◌≤◌, ◌<◌}
use native.Mathlib.Omega.{arith}
use lib.Dec.{ltb}
use lib.ListN.{length}
use borrow.Author.Tests.{lt-ltb, le-ltb, ltb-true, eq-eqb, ne_eqb}
use Rattle.table.specs.declared.layout.Layout.{Layout}
use Rattle.std.specs.Prelude.{Err}
use Rattle.table.specs.declared.refusal.Malformed.{Malformed}
use Rattle.table.specs.Answers.{malformed_number}
use Rattle.wellformed.specs.Answers.{Verdict, verdict_number, Proper}
use Rattle.table.specs.Layout.{layout_of, type_count, header_words}
use Rattle.table.specs.Refusals.{no_input_object, wrong_evidence, short_work}
use Rattle.wellformed.specs.Sound.{Sound}
use Rattle.wellformed.specs.WellFormed.{unless, has_header, in_limits, right_length, names_right, rows_good, names_distinct, refusal_laid, refusal}
use Rattle.rows.specs.Readable.{SoundRows, Readable}
use Rattle.rows.proofs.ReadableLaws.{sound_rows, readable}
use Rattle.names.proofs.BoolLaws.{and_left}
use Rattle.evidence.specs.Words.{evidence_words}
use Rattle.links.specs.Fields.{is_input_object}
use Rattle.chains.specs.Work.{work_words}
use Rattle.lhakvuni.specs.Calls.{or_else, input_object_at, row_number, work_number, evidence_number, records_number, cycle_number, judge_number, make_number}

pub or_first : (n next : ℕ) → n ≢ 0 → or_else n next ≡ n
or_first zero next h = absurd (h refl)
or_first (suc n) next h = refl

pub or_next_lem : (n next : ℕ) → n ≡ 0 → or_else n next ≡ next
or_next_lem n next h = rw h

-- a table that is refused
module _ (v : Verdict) (text w : List ℕ) (e : verdict_number v ≡ refusal text w) (p : Proper v) (m : Malformed) (r : v ≡ Err m) where
  pub refusal_is : refusal text w ≡ malformed_number m
  refusal_is = sym e ∙ ap verdict_number r

  pub refusal_some : malformed_number m ≢ 0
  refusal_some = let k : Proper (Err m) = rw r at p in omega arith

  pub records_refused : (work : List ℕ) → records_number text w work ≡ malformed_number m
  unfolding records_number
  records_refused work = rw refusal_is (or_first (malformed_number m) _ refusal_some)

  pub cycle_refused : (t : ℕ) (work : List ℕ) → cycle_number text w t work ≡ malformed_number m
  unfolding cycle_number
  cycle_refused t work = rw refusal_is (or_first (malformed_number m) _ refusal_some)

  pub judge_refused : (ev : List ℕ) → judge_number text w ev ≡ malformed_number m
  unfolding judge_number
  judge_refused ev = rw refusal_is (or_first (malformed_number m) _ refusal_some)

  pub make_refused : (work : List ℕ) → make_number text w work ≡ malformed_number m
  unfolding make_number
  make_refused work = rw refusal_is (or_first (malformed_number m) _ refusal_some)

-- the table's refusals are 1 to 6
pub refusal_most : (text w : List ℕ) → refusal text w ≤ 6
unfolding refusal refusal_laid
refusal_most text w = few (has_header w) _ _ (omega arith) (few (in_limits text (layout_of w)) _ _ (omega arith) (few (right_length w (layout_of w)) _ _ (omega arith)
    (few (names_right text w (layout_of w)) _ _ (omega arith) (few (rows_good w (layout_of w)) _ _ (omega arith) (few (names_distinct w (layout_of w)) _ _ (omega arith) (omega arith))))))
  where
    few : (b : Bool) (n m : ℕ) → n ≤ 6 → m ≤ 6 → unless b n m ≤ 6
    few true n m p q = q
    few false n m p q = p

-- a well-formed table, by its own layout
module _ (w : List ℕ) (l : Layout) (same : l ≡ layout_of w) where
  pub types_are : l.types ≡ type_count w
  types_are = ap (λ (x : Layout). x.types) same

  pub work_short : (each : ℕ) (work : List ℕ) → length work < each * l.types → work_number each w work ≡ short_work
  unfolding work_number
  work_short each work h = let k : length work < each * type_count w = rw types_are at h in rw (lt-ltb _ _ k)

  pub work_long : (each : ℕ) (work : List ℕ) → each * l.types ≤ length work → work_number each w work ≡ 0
  unfolding work_number
  work_long each work h = let k : each * type_count w ≤ length work = rw types_are at h in rw (le-ltb _ _ k)

  pub evidence_other : (ev : List ℕ) → (length ev ≡ evidence_words * l.types → ⊥) → evidence_number w ev ≡ wrong_evidence
  unfolding evidence_number
  evidence_other ev h = let k : length ev ≡ evidence_words * type_count w → ⊥ = rw types_are at h in rw (ne_eqb _ _ k)

  pub evidence_right : (ev : List ℕ) → length ev ≡ evidence_words * l.types → evidence_number w ev ≡ 0
  unfolding evidence_number
  evidence_right ev h = let k : length ev ≡ evidence_words * type_count w = rw types_are at h in rw (eq-eqb _ _ k)

module _ (text w : List ℕ) (z : refusal text w ≡ 0) where
  pub records_number_lem : (work : List ℕ) → records_number text w work ≡ work_number work_words w work
  unfolding records_number
  records_number_lem work = or_next_lem _ _ z

  pub cycle_row : (t : ℕ) (work : List ℕ) → input_object_at w t ≡ false → cycle_number text w t work ≡ no_input_object
  unfolding cycle_number row_number
  cycle_row t work h = or_next_lem _ _ z ∙ rw h refl

  pub cycle_work : (t : ℕ) (work : List ℕ) → input_object_at w t ≡ true → cycle_number text w t work ≡ work_number work_words w work
  unfolding cycle_number row_number
  cycle_work t work h = or_next_lem _ _ z ∙ rw h refl

  pub judge_number_lem : (ev : List ℕ) → judge_number text w ev ≡ evidence_number w ev
  unfolding judge_number
  judge_number_lem ev = or_next_lem _ _ z

  pub make_number_lem : (work : List ℕ) → make_number text w work ≡ work_number evidence_words w work
  unfolding make_number
  make_number_lem work = or_next_lem _ _ z

-- the row of an input object is a type's
pub row_below : (w : List ℕ) (t : ℕ) → input_object_at w t ≡ true → t < type_count w
unfolding input_object_at
row_below w t e = ltb-true t (type_count w) (and_left (ltb t (type_count w)) (is_input_object w t) e)

-- what the test of a row answers: one past the types, and one of a type
module _ (w : List ℕ) (l : Layout) (same : l ≡ layout_of w) (t : ℕ) where
  pub row_past : l.types ≤ t → input_object_at w t ≡ false
  unfolding input_object_at
  row_past h = let k : type_count w ≤ t = rw (types_are w l same) at h in rw (le-ltb t (type_count w) k)

  pub row_type : t < l.types → input_object_at w t ≡ is_input_object w t
  unfolding input_object_at
  row_type h = let k : t < type_count w = rw (types_are w l same) at h in rw (lt-ltb t (type_count w) k)

-- the header is there
pub header_there : {text w : List ℕ} → Sound text w → header_words ≤ length w
header_there s = omega (arith, s.laid.whole, s.laid.roots_at_is, s.laid.values_at_is, s.laid.members_at_is, s.laid.arguments_at_is, s.laid.fields_at_is, s.laid.edges_at_is, s.laid.types_at_is)

-- a well-formed table with its layout
pub sound_by : {text w : List ℕ} {l : Layout} → Sound text w → l ≡ layout_of w → SoundRows w l
sound_by {w = w} s e = subst (SoundRows w) (sym e) (sound_rows s)

pub readable_by : {text w : List ℕ} {l : Layout} → Sound text w → l ≡ layout_of w → Readable text w l
readable_by {text = text} {w = w} s e = subst (Readable text w) (sym e) (readable text w s)
