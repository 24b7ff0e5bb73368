-- Refusal 0 gives every fact of a sound table: each test of a refusal is taken apart, and each `every` is used at one row.
use mathlib.Core.Path.{◌≡◌, refl}
use mathlib.Core.Bool.{Bool, true, false, ◌&&◌, ◌||◌}
use mathlib.Core.List.{List}
use mathlib.Core.Logic.{⊎_elim, ◌≢◌}
use Prim.Native.Nat.{ℕ, zero, suc, ◌<◌, zero-le}
use native.Mathlib.Omega.{arith}
use lib.Dec.{ltb, eqb}
use borrow.Author.Tests.{ltb-true, eqb-true, ne_eqb}
use Rattle.table.specs.declared.layout.Column.{Column}
use Rattle.table.specs.declared.layout.Layout.{Layout}
use Rattle.table.specs.Kinds.{owns_edges, owns_fields, owns_members, owns_values, takes_arguments, takes_default}
use Rattle.table.specs.Layout.{none, layout_of, word_at, start_at, empty, name_count, type_count, type_kind, edges_ends, fields_ends, members_ends, values_ends, arguments_ends, type_names, type_kinds, type_flags, edge_names, field_names, field_types, field_wraps, field_defaults, argument_names, argument_types, argument_wraps, argument_defaults, member_names, value_names, root}
use Rattle.wellformed.specs.WellFormed.{has_header, in_limits, right_length, names_good, names_rise, names_right, root_good, roots_good, all_ends_good, sections_fit, field_fits, fields_fit, words_good, sections_all_fit, fields_all_fit, rows_good, distinct, run_distinct, rows_distinct, rows_all_distinct, names_distinct, unless, refusal_laid, refusal}
use Rattle.wellformed.specs.Sound.{Sound, SoundWords, SoundRuns, SoundOwner, SoundApart}
use Rattle.names.proofs.BoolLaws.{and_left, and_right, and3, and4, or_cases, or_left}
use Rattle.names.proofs.CountLaws.{every_at}
use Rattle.name_section.proofs.NameSectionLaws.{sound_names}
use Rattle.wellformed.proofs.LimitLaws.{limits, laid}
use Rattle.wellformed.proofs.WordLaws.{type_columns, field_columns, argument_columns, list_columns, roots_good_lem}
use Rattle.columns.proofs.ColumnLaws.{below_at, wraps_at, runs, apart}
use Rattle.wellformed.proofs.EndLaws.{edges_ends_lem, fields_ends_lem, members_ends_lem, values_ends_lem, arguments_ends_lem}

-- Words.

module _ (w : List ℕ) where
  abbrev l : Layout
  l = layout_of w

  root_is : (op : ℕ) → root_good w l op ≡ true → root w op ≢ none → root w op < name_count w
  unfolding root_good
  root_is op e some =
      ⊎_elim (λ a. ltb-true (root w op) (name_count w) a) (λ a. absurd (some (eqb-true (root w op) none a)))
      (or_cases (ltb (root w op) (name_count w)) (eqb (root w op) none) e)

  roots_are : roots_good w l ≡ true → (op : ℕ) → op < 3 → root w op ≢ none → root w op < name_count w
  unfolding roots_good
  roots_are e zero h = root_is 0 (and3 (root_good w l 0) (root_good w l 1) (root_good w l 2) e).0
  roots_are e (suc zero) h = root_is 1 (and3 (root_good w l 0) (root_good w l 1) (root_good w l 2) e).1
  roots_are e (suc (suc zero)) h = root_is 2 (and3 (root_good w l 0) (root_good w l 1) (root_good w l 2) e).2
  roots_are e (suc (suc (suc n))) h = absurd (omega arith)

  sound_words : words_good w l ≡ true → SoundWords w
  sound_words e =
      let t = type_columns w l e in
      let f = field_columns w l e in
      let a = argument_columns w l e in
      let s = list_columns w l e in
      record {
        type_name_fits = below_at w (type_names l) l.names t.0;
        type_kind_fits = below_at w (type_kinds l) 6 t.1;
        type_flag_fits = below_at w (type_flags l) 2 t.2;
        field_name_fits = below_at w (field_names l) l.names f.0;
        field_type_fits = below_at w (field_types l) l.names f.1;
        field_wrap_fits = wraps_at w (field_wraps l) f.2;
        field_default_fits = below_at w (field_defaults l) 2 f.3;
        argument_name_fits = below_at w (argument_names l) l.names a.0;
        argument_type_fits = below_at w (argument_types l) l.names a.1;
        argument_wrap_fits = wraps_at w (argument_wraps l) a.2;
        argument_default_fits = below_at w (argument_defaults l) 2 a.3;
        edge_name_fits = below_at w (edge_names l) l.names s.0;
        member_name_fits = below_at w (member_names l) l.names s.1;
        value_name_fits = below_at w (value_names l) l.names s.2;
        root_name_fits = roots_are (roots_good_lem w l e);
      }

  sound_runs : all_ends_good w l ≡ true → SoundRuns w
  sound_runs e =
      record {
        edges = runs w (edges_ends l) l.edges (edges_ends_lem w l e);
        fields = runs w (fields_ends l) l.fields (fields_ends_lem w l e);
        members = runs w (members_ends l) l.members (members_ends_lem w l e);
        values = runs w (values_ends l) l.values (values_ends_lem w l e);
        arguments = runs w (arguments_ends l) l.arguments (arguments_ends_lem w l e);
      }

  -- Owners.

  some_rows : (c : Column) (i : ℕ) → start_at w c i < word_at w c i → empty w c i ≡ false
  some_rows c i h = ne_eqb _ _ (λ (q : start_at w c i ≡ word_at w c i). omega arith)

  module _ (t : ℕ) where
    abbrev k : ℕ
    k = type_kind w t

    field_arguments_lem : (f : ℕ) → field_fits w l k f ≡ true → start_at w (arguments_ends l) f < word_at w (arguments_ends l) f → takes_arguments k ≡ true
    unfolding field_fits
    field_arguments_lem f e h =
        let a = takes_arguments k || empty w (arguments_ends l) f in
        let b = takes_default k || eqb (word_at w (field_defaults l) f) 0 in
        or_left (takes_arguments k) (empty w (arguments_ends l) f) (and_left a b e) (some_rows (arguments_ends l) f h)

    field_default_fits : (f : ℕ) → field_fits w l k f ≡ true → word_at w (field_defaults l) f ≡ 1 → takes_default k ≡ true
    unfolding field_fits
    field_default_fits f e h =
        let a = takes_arguments k || empty w (arguments_ends l) f in
        let b = takes_default k || eqb (word_at w (field_defaults l) f) 0 in
        or_left (takes_default k) (eqb (word_at w (field_defaults l) f) 0) (and_right a b e) (ne_eqb _ 0 (λ (q : word_at w (field_defaults l) f ≡ 0). omega arith))

    sound_owner : sections_fit w l t ≡ true → fields_fit w l t ≡ true → SoundOwner w t
    unfolding sections_fit fields_fit
    sound_owner e g =
        let i = owns_edges k || empty w (edges_ends l) t in
        let f = owns_fields k || empty w (fields_ends l) t in
        let m = owns_members k || empty w (members_ends l) t in
        let v = owns_values k || empty w (values_ends l) t in
        let p = and4 i f m v e in
        record {
          edges = λ h. or_left (owns_edges k) (empty w (edges_ends l) t) p.0 (some_rows (edges_ends l) t h);
          fields = λ h. or_left (owns_fields k) (empty w (fields_ends l) t) p.1 (some_rows (fields_ends l) t h);
          members = λ h. or_left (owns_members k) (empty w (members_ends l) t) p.2 (some_rows (members_ends l) t h);
          values = λ h. or_left (owns_values k) (empty w (values_ends l) t) p.3 (some_rows (values_ends l) t h);
          arguments = λ j a b h. field_arguments_lem j (every_at (field_fits w l k) _ _ j g a b) h;
          defaults = λ j a b h. field_default_fits j (every_at (field_fits w l k) _ _ j g a b) h;
        }

  -- Repeats.

  rows_at : names_distinct w l ≡ true → (t : ℕ) → t < type_count w → rows_distinct w l t ≡ true
  unfolding names_distinct rows_all_distinct
  rows_at e t h = every_at (rows_distinct w l) 0 l.types t (and_right (distinct w (type_names l) 0 l.types) (rows_all_distinct w l) e) zero-le h

  lists_at : names_distinct w l ≡ true → (t : ℕ) → t < type_count w
      → (run_distinct w (edge_names l) (edges_ends l) t ≡ true) × (run_distinct w (field_names l) (fields_ends l) t ≡ true) × (run_distinct w (member_names l) (members_ends l) t ≡ true) × (run_distinct w (value_names l) (values_ends l) t ≡ true)
  unfolding rows_distinct
  lists_at e t h =
      and4 (run_distinct w (edge_names l) (edges_ends l) t) (run_distinct w (field_names l) (fields_ends l) t) (run_distinct w (member_names l) (members_ends l) t) (run_distinct w (value_names l) (values_ends l) t) (rows_at e t h)

  sound_apart : names_distinct w l ≡ true → SoundApart w
  unfolding names_distinct run_distinct
  sound_apart e =
      record {
        types = apart w (type_names l) 0 l.types (and_left (distinct w (type_names l) 0 l.types) (rows_all_distinct w l) e);
        edges = λ t h. apart w (edge_names l) _ _ (lists_at e t h).0;
        fields = λ t h. apart w (field_names l) _ _ (lists_at e t h).1;
        members = λ t h. apart w (member_names l) _ _ (lists_at e t h).2;
        values = λ t h. apart w (value_names l) _ _ (lists_at e t h).3;
      }

unless_zero : (b : Bool) (n m : ℕ) → (n ≡ 0 → ⊥) → unless b n m ≡ 0 → (b ≡ true) × (m ≡ 0)
unless_zero true n m h e = (refl, e)
unless_zero false n m h e = absurd (h e)

-- the tests that refusal 0 has passed
pub record Passed (text w : List ℕ) : Type 0 where
  pub header : has_header w ≡ true
  pub limits : in_limits text (layout_of w) ≡ true
  pub length : right_length w (layout_of w) ≡ true
  pub names : names_right text w (layout_of w) ≡ true
  pub rows : rows_good w (layout_of w) ≡ true
  pub distinct : names_distinct w (layout_of w) ≡ true

pub passed : (text w : List ℕ) → refusal text w ≡ 0 → Passed text w
unfolding refusal refusal_laid
passed text w e =
    let l = layout_of w in
    let p₁ = unless_zero (has_header w) 1 _ (λ q. omega arith) e in
    let p₂ = unless_zero (in_limits text l) 2 _ (λ q. omega arith) p₁.1 in
    let p₃ = unless_zero (right_length w l) 3 _ (λ q. omega arith) p₂.1 in
    let p₄ = unless_zero (names_right text w l) 4 _ (λ q. omega arith) p₃.1 in
    let p₅ = unless_zero (rows_good w l) 5 _ (λ q. omega arith) p₄.1 in
    let p₆ = unless_zero (names_distinct w l) 6 0 (λ q. omega arith) p₅.1 in
    record { header = p₁.0; limits = p₂.0; length = p₃.0; names = p₄.0; rows = p₅.0; distinct = p₆.0 }

pub sound : (text w : List ℕ) → refusal text w ≡ 0 → Sound text w
unfolding names_right rows_good sections_all_fit fields_all_fit
sound text w e =
    let l = layout_of w in
    let p = passed text w e in
    let g = and_left (names_good text w l) (names_rise text w l) p.names in
    let r = and_right (names_good text w l) (names_rise text w l) p.names in
    let a = and_left (all_ends_good w l) (words_good w l && sections_all_fit w l && fields_all_fit w l) p.rows in
    let b = and3 (words_good w l) (sections_all_fit w l) (fields_all_fit w l) (and_right (all_ends_good w l) (words_good w l && sections_all_fit w l && fields_all_fit w l) p.rows) in
    record {
      laid = laid text w p.limits p.length;
      text_most = (limits text l p.limits).bytes;
      names = sound_names text w g r;
      words = sound_words w b.0;
      runs = sound_runs w a;
      owner = λ t h. sound_owner w t (every_at (sections_fit w l) 0 l.types t b.1 zero-le h) (every_at (fields_fit w l) 0 l.types t b.2 zero-le h);
      apart = sound_apart w p.distinct;
    }
