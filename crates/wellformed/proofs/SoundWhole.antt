-- A sound table passes every test, so that `Sound` says no less than refusal 0.
use mathlib.Core.Path.{◌≡◌, refl, ◌∙◌}
use mathlib.Core.Bool.{Bool, true, false, ◌||◌}
use mathlib.Core.List.{List}
use mathlib.Core.Logic.{⊎_elim}
use Prim.Native.Nat.{ℕ, ◌≤◌, ◌<◌}
use native.Mathlib.Omega.{arith}
use lib.ListN.{length}
use lib.Dec.{ltb, eqb}
use borrow.Author.Tests.{le-leb, lt-ltb, eq-eqb, eqb-false}
use Rattle.table.specs.declared.layout.Column.{Column}
use Rattle.table.specs.declared.layout.Layout.{Layout}
use Rattle.table.specs.Kinds.{owns_edges, owns_fields, owns_members, owns_values, takes_arguments, takes_default}
use Rattle.table.specs.Layout.{none, layout_of, word_at, start_at, empty, name_count, type_count, field_count, type_kind, edges_ends, fields_ends, members_ends, values_ends, arguments_ends, type_names, type_kinds, type_flags, edge_names, field_names, field_types, field_wraps, field_defaults, argument_names, argument_types, argument_wraps, argument_defaults, member_names, value_names, root}
use Rattle.wellformed.specs.WellFormed.{has_header, in_limits, right_length, names_right, root_good, roots_good, types_good, all_ends_good, fields_good, arguments_good, lists_good, sections_fit, field_fits, fields_fit, words_good, sections_all_fit, fields_all_fit, rows_good, run_distinct, rows_distinct, rows_all_distinct, names_distinct, refusal_laid, refusal}
use Rattle.wellformed.specs.Sound.{Sound}
use Rattle.names.proofs.BoolLaws.{decide, and_true, or_true}
use Rattle.names.proofs.CountLaws.{every_intro}
use Rattle.table.proofs.LayoutLaws.{roots_end}
use Rattle.name_section.proofs.NameSectionLaws.{are_right}
use Rattle.columns.proofs.ColumnLaws.{is_below, are_wraps, are_ends, are_distinct}

or_first : (a b : Bool) → a ≡ true → a || b ≡ true
or_first a b e = rw e

module _ (w : List ℕ) (c : Column) where
  -- a run that is empty, or has an owner
  owned : (i : ℕ) (b : Bool) → start_at w c i ≤ word_at w c i → (start_at w c i < word_at w c i → b ≡ true) → b || empty w c i ≡ true
  owned i b r h =
      ⊎_elim (λ e. or_true b (empty w c i) e)
      (λ e.
      let n = eqb-false (start_at w c i) (word_at w c i) e in
      let k : start_at w c i < word_at w c i = omega (arith, n) in
      or_first b (empty w c i) (h k))
      (decide (empty w c i))

module _ (text w : List ℕ) (s : Sound text w) where
  abbrev l : Layout
  l = layout_of w

  header : has_header w ≡ true
  header = le-leb 7 (length w) (omega (arith, s.laid.whole, s.laid.roots_at_is, s.laid.values_at_is, s.laid.members_at_is, s.laid.arguments_at_is, s.laid.fields_at_is, s.laid.edges_at_is, s.laid.types_at_is))

  limits : in_limits text l ≡ true
  unfolding in_limits
  limits =
      let d = s.laid in
      rw (le-leb _ _ d.names_most, le-leb _ _ d.types_most, le-leb _ _ d.edges_most, le-leb _ _ d.fields_most, le-leb _ _ d.arguments_most, le-leb _ _ d.members_most, le-leb _ _ d.values_most, le-leb _ _ s.text_most) refl

  right : right_length w l ≡ true
  unfolding right_length
  right = eq-eqb _ _ (s.laid.whole ∙ roots_end w)

  names : names_right text w l ≡ true
  names = are_right text w s.names

  root_good_lem : (op : ℕ) → op < 3 → root_good w l op ≡ true
  unfolding root_good
  root_good_lem op h =
      ⊎_elim (λ e. or_true (ltb (root w op) (name_count w)) (eqb (root w op) none) e)
      (λ e. or_first (ltb (root w op) (name_count w)) (eqb (root w op) none) (lt-ltb (root w op) (name_count w) (s.words.root_name_fits op h (eqb-false (root w op) none e))))
      (decide (eqb (root w op) none))

  words : words_good w l ≡ true
  unfolding words_good types_good fields_good arguments_good lists_good roots_good
  words =
      let d = s.words in
      and_true
      (and_true
      (and_true
      (and_true
      (and_true (and_true (is_below w (type_names l) l.names d.type_name_fits) (is_below w (type_kinds l) 6 d.type_kind_fits)) (is_below w (type_flags l) 2 d.type_flag_fits))
      (and_true (and_true (and_true (is_below w (field_names l) l.names d.field_name_fits) (is_below w (field_types l) l.names d.field_type_fits)) (are_wraps w (field_wraps l) d.field_wrap_fits)) (is_below w (field_defaults l) 2 d.field_default_fits)))
      (and_true (and_true (and_true (is_below w (argument_names l) l.names d.argument_name_fits) (is_below w (argument_types l) l.names d.argument_type_fits)) (are_wraps w (argument_wraps l) d.argument_wrap_fits)) (is_below w (argument_defaults l) 2 d.argument_default_fits)))
      (and_true (and_true (is_below w (edge_names l) l.names d.edge_name_fits) (is_below w (member_names l) l.names d.member_name_fits)) (is_below w (value_names l) l.names d.value_name_fits)))
      (and_true (and_true (root_good_lem 0 (omega arith)) (root_good_lem 1 (omega arith))) (root_good_lem 2 (omega arith)))

  ends : all_ends_good w l ≡ true
  unfolding all_ends_good
  ends =
      let r = s.runs in
      and_true (and_true (and_true (and_true (are_ends w (edges_ends l) l.edges r.edges) (are_ends w (fields_ends l) l.fields r.fields)) (are_ends w (members_ends l) l.members r.members)) (are_ends w (values_ends l) l.values r.values)) (are_ends w (arguments_ends l) l.arguments r.arguments)

  module _ (t : ℕ) (h : t < type_count w) where
    abbrev k : ℕ
    k = type_kind w t

    sections : sections_fit w l t ≡ true
    unfolding sections_fit
    sections =
        let o = s.owner t h in
        let r = s.runs in
        and_true
        (and_true
        (and_true
        (owned w (edges_ends l) t (owns_edges k) (r.edges.rise t h) o.edges)
        (owned w (fields_ends l) t (owns_fields k) (r.fields.rise t h) o.fields))
        (owned w (members_ends l) t (owns_members k) (r.members.rise t h) o.members))
        (owned w (values_ends l) t (owns_values k) (r.values.rise t h) o.values)

    default_fits : (f : ℕ) → f < field_count w → (word_at w (field_defaults l) f ≡ 1 → takes_default k ≡ true) → takes_default k || eqb (word_at w (field_defaults l) f) 0 ≡ true
    default_fits f b o =
        let d = word_at w (field_defaults l) f in
        ⊎_elim (λ e. or_true (takes_default k) (eqb d 0) e)
        (λ (e : eqb d 0 ≡ false).
        let n = eqb-false d 0 e in
        let m = s.words.field_default_fits f b in
        let q : d ≡ 1 = omega (arith, n, m) in
        or_first (takes_default k) (eqb d 0) (o q))
        (decide (eqb d 0))

    fields : fields_fit w l t ≡ true
    unfolding fields_fit field_fits
    fields =
        let o = s.owner t h in
        every_intro (field_fits w l k) (start_at w (fields_ends l) t) (word_at w (fields_ends l) t)
        (λ f a b.
        let i = s.runs.fields.inside t h in
        let q : f < field_count w = omega (arith, i) in
        and_true (owned w (arguments_ends l) f (takes_arguments k) (s.runs.arguments.rise f q) (o.arguments f a b)) (default_fits f q (o.defaults f a b)))

    rows : rows_distinct w l t ≡ true
    unfolding rows_distinct run_distinct
    rows =
        let p = s.apart in
        and_true (and_true (and_true (are_distinct w (edge_names l) _ _ (p.edges t h)) (are_distinct w (field_names l) _ _ (p.fields t h))) (are_distinct w (member_names l) _ _ (p.members t h))) (are_distinct w (value_names l) _ _ (p.values t h))

  owners : rows_good w l ≡ true
  unfolding rows_good sections_all_fit fields_all_fit
  owners =
      and_true ends
      (and_true (and_true words (every_intro (sections_fit w l) 0 l.types (λ t a b. sections t b))) (every_intro (fields_fit w l) 0 l.types (λ t a b. fields t b)))

  apart : names_distinct w l ≡ true
  unfolding names_distinct rows_all_distinct
  apart = and_true (are_distinct w (type_names l) 0 l.types s.apart.types) (every_intro (rows_distinct w l) 0 l.types (λ t a b. rows t b))

  -- a sound table is well-formed
  pub whole : refusal text w ≡ 0
  unfolding refusal refusal_laid
  whole = rw (header, limits, right, names, owners, apart) refl
