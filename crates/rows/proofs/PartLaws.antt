-- What stands in a part of a table: a row of a run is a row of its section.
use mathlib.Core.Path.{◌≡◌, sym, ap, subst, ◌∙◌}
use mathlib.Core.List.{List}
use Prim.Native.Nat.{ℕ, ◌+◌, ◌*◌, ◌-◌, ◌≤◌, ◌<◌}
use native.Mathlib.Nat.{mul-le-mul_left, mul-add, mul-one}
use native.Mathlib.Omega.{arith}
use lib.Dec.{lit<}
use lib.ListN.{length, get_or, length-take, length-drop}
use lib.Seq.{get_or-take, get_or-drop}
use Rattle.names.specs.Count.{part}
use Rattle.table.specs.declared.layout.Layout.{Layout}
use Rattle.table.specs.declared.layout.Column.{Column}
use Rattle.table.specs.Kinds.{kinds}
use Rattle.wellformed.specs.Sound.{Runs}
use Rattle.table.proofs.LayoutLaws.{inside_type, inside_field}
use Rattle.table.specs.Layout.{most_listed, Inside, Laid, layout_of, word_at, start_at, type_name, type_kind, type_count, field_count, field_words, argument_words, edges_start, fields_start, arguments_start, members_start, values_start, edges_at, fields_at, arguments_at, members_at, values_at, edge_count, member_count, value_count, name_count, edges_ends, fields_ends, arguments_ends, members_ends, values_ends, edge_names, field_names, argument_names, member_names, value_names}
use Rattle.rows.specs.Parts.{run_of, edges_of, fields_of, arguments_of, members_of, values_of}
use Rattle.rows.specs.Readable.{SoundRows, NamePart, FieldPart, ArgumentPart}

module _ (w : List ℕ) (a b : ℕ) where
  pub part_length : a ≤ b → b ≤ length w → length (part w a b) ≡ b - a
  part_length h k = simp (length-take, length-drop) (omega arith)

  pub part_at : (i : ℕ) → a + i < b → get_or (part w a b) i 0 ≡ get_or w (a + i) 0
  part_at i h = let k : i < b - a = omega arith in rw (get_or-take, get_or-drop)

-- a row of a part is a row of the section; the section's rows are `width` words
module _ (w : List ℕ) (base width from to : ℕ) (h : base + width * to ≤ length w) (r : from ≤ to) where
  pub rows_length : length (part w (base + width * from) (base + width * to)) ≡ width * (to - from)
  rows_length =
      let m : width * from ≤ width * to = mul-le-mul_left width r in
      let e : from + (to - from) ≡ to = omega arith in
      let d : width * from + width * (to - from) ≡ width * to = sym (mul-add width from (to - from)) ∙ ap (λ (x : ℕ). width * x) e in
      let l : length (part w (base + width * from) (base + width * to)) ≡ base + width * to - (base + width * from) = part_length w (base + width * from) (base + width * to) (omega arith) h in
      omega arith

  pub row_at : (i k : ℕ) → from + i < to → k < width → get_or (part w (base + width * from) (base + width * to)) (width * i + k) 0 ≡ get_or w (base + k + width * (from + i)) 0
  row_at i k q b =
      let m : width * (from + i + 1) ≤ width * to = mul-le-mul_left width (let g : from + i + 1 ≤ to = omega arith in g) in
      let d : width * (from + i + 1) ≡ width * (from + i) + width = mul-add width (from + i) 1 ∙ ap (λ (x : ℕ). width * (from + i) + x) (mul-one width) in
      let s : width * (from + i) ≡ width * from + width * i = mul-add width from i in
      let f : base + width * from + (width * i + k) < base + width * to = omega arith in
      let e : base + width * from + (width * i + k) ≡ base + k + width * (from + i) = omega arith in
      part_at w (base + width * from) (base + width * to) (width * i + k) f ∙ ap (λ (x : ℕ). get_or w x 0) e

-- the rows of a run; `first` is the first column of the section, and `ends` cuts it
module _ (w : List ℕ) (first ends : Column) (i : ℕ) (rise : start_at w ends i ≤ word_at w ends i) (fits : first.base + first.width * word_at w ends i ≤ length w) where
  pub run_length : length (run_of w first ends i) ≡ first.width * (word_at w ends i - start_at w ends i)
  unfolding run_of
  run_length = rows_length w first.base first.width (start_at w ends i) (word_at w ends i) fits rise

  pub run_word : (j k : ℕ) → start_at w ends i + j < word_at w ends i → k < first.width
      → get_or (run_of w first ends i) (first.width * j + k) 0 ≡ get_or w (first.base + k + first.width * (start_at w ends i + j)) 0
  unfolding run_of
  run_word j k = row_at w first.base first.width (start_at w ends i) (word_at w ends i) fits rise j k

-- a run of names, of edges, members or values
module _ (w : List ℕ) (l : Layout) (base rows : ℕ) (ends : Column) (runs : Runs w ends rows) (below : (r : ℕ) → r < rows → word_at w (record { base = base; width = 1; rows = rows }) r < l.names) (fits : base + rows ≤ length w) (most : rows ≤ most_listed) (i : ℕ) (h : i < ends.rows) where
  abbrev names : Column
  names = record { base = base; width = 1; rows = rows }

  names_length : length (run_of w names ends i) ≡ 1 * (word_at w ends i - start_at w ends i)
  names_length = run_length w names ends i (runs.rise i h) (omega (arith, runs.inside i h))

  name_below : (j : ℕ) → start_at w ends i + j < word_at w ends i → get_or (run_of w names ends i) j 0 < l.names
  unfolding word_at
  name_below j q =
      let e : 1 * j + 0 ≡ j = omega arith in
      let f : base + 0 + 1 * (start_at w ends i + j) ≡ base + 1 * (start_at w ends i + j) = omega arith in
      let g : get_or w (base + 0 + 1 * (start_at w ends i + j)) 0 < l.names = subst (λ (x : ℕ). get_or w x 0 < l.names) (sym f) (below (start_at w ends i + j) (omega (arith, runs.inside i h))) in
      subst (λ (x : ℕ). get_or (run_of w names ends i) x 0 < l.names) e
      (subst (λ (x : ℕ). x < l.names) (sym (run_word w names ends i (runs.rise i h) (omega (arith, runs.inside i h)) j 0 q (lit< tt))) g)

  pub name_part : NamePart l (start_at w ends i) (run_of w names ends i)
  name_part =
      record {
        names = λ j q. let f : start_at w ends i + j < word_at w ends i = omega (arith, names_length) in name_below j f;
        within = omega (arith, names_length, runs.rise i h, runs.inside i h);
      }

-- a run of rows of more words: word k of each is below the number of names
module _ (w : List ℕ) (l : Layout) (first ends : Column) (runs : Runs w ends first.rows) (fits : first.base + first.width * first.rows ≤ length w) (i : ℕ) (h : i < ends.rows) where
  pub run_fits : first.base + first.width * word_at w ends i ≤ length w
  run_fits = let m : first.width * word_at w ends i ≤ first.width * first.rows = mul-le-mul_left first.width (runs.inside i h) in omega arith

  pub cell_below : (k at : ℕ) → k < first.width → first.base + k ≡ at → ((r : ℕ) → r < first.rows → get_or w (at + first.width * r) 0 < l.names)
      → (j : ℕ) → start_at w ends i + j < word_at w ends i → get_or (run_of w first ends i) (first.width * j + k) 0 < l.names
  cell_below k at b e below j q =
      let g : get_or w (first.base + k + first.width * (start_at w ends i + j)) 0 < l.names = rw e (below (start_at w ends i + j) (omega (arith, runs.inside i h))) in
      subst (λ (x : ℕ). x < l.names) (sym (run_word w first ends i (runs.rise i h) run_fits j k q b)) g

zero_more : (x : ℕ) → x + 0 ≡ x
zero_more x = omega arith

-- the parts of a type and of a field
module _ {w : List ℕ} (s : SoundRows w (layout_of w)) where
  edges_own : (t : ℕ) → t < type_count w → NamePart (layout_of w) (edges_start w t) (edges_of w t)
  unfolding edges_of
  edges_own t h = name_part w (layout_of w) (edges_at w) (edge_count w) (edges_ends (layout_of w)) s.runs.edges s.words.edge_name_fits (omega (arith, s.laid.values_at_is)) s.laid.edges_most t h

  members_own : (t : ℕ) → t < type_count w → NamePart (layout_of w) (members_start w t) (members_of w t)
  unfolding members_of
  members_own t h = name_part w (layout_of w) (members_at w) (member_count w) (members_ends (layout_of w)) s.runs.members s.words.member_name_fits (omega (arith, s.laid.values_at_is)) s.laid.members_most t h

  values_own : (t : ℕ) → t < type_count w → NamePart (layout_of w) (values_start w t) (values_of w t)
  unfolding values_of
  values_own t h = name_part w (layout_of w) (values_at w) (value_count w) (values_ends (layout_of w)) s.runs.values s.words.value_name_fits (omega (arith, s.laid.values_at_is)) s.laid.values_most t h

  abbrev fields : Column
  fields = field_names (layout_of w)

  abbrev field_ends : Column
  field_ends = fields_ends (layout_of w)

  fields_fit : fields.base + fields.width * fields.rows ≤ length w
  fields_fit = omega (arith, s.laid.values_at_is)

  fields_own : (t : ℕ) → t < type_count w → FieldPart (layout_of w) (fields_start w t) (fields_of w t)
  unfolding fields_of word_at
  fields_own t h =
      let r = run_length w fields field_ends t (s.runs.fields.rise t h) (run_fits w (layout_of w) fields field_ends s.runs.fields fields_fit t h) in
      let cell = cell_below w (layout_of w) fields field_ends s.runs.fields fields_fit t h in
      record {
        names = λ j q. let f : fields_start w t + j < word_at w field_ends t = omega (arith, r) in subst (λ (x : ℕ). get_or (run_of w fields field_ends t) x 0 < name_count w) (zero_more (field_words * j)) (cell 0 (fields_at w + 0) (lit< tt) (omega arith) s.words.field_name_fits j f);
        types = λ j q. let f : fields_start w t + j < word_at w field_ends t = omega (arith, r) in cell 1 (fields_at w + 1) (lit< tt) (omega arith) s.words.field_type_fits j f;
        within = omega (arith, r, s.runs.fields.rise t h, s.runs.fields.inside t h);
      }

  abbrev arguments : Column
  arguments = argument_names (layout_of w)

  abbrev argument_ends : Column
  argument_ends = arguments_ends (layout_of w)

  arguments_fit : arguments.base + arguments.width * arguments.rows ≤ length w
  arguments_fit = omega (arith, s.laid.values_at_is)

  arguments_own : (f : ℕ) → f < field_count w → ArgumentPart (layout_of w) (arguments_start w f) (arguments_of w f)
  unfolding arguments_of word_at
  arguments_own f h =
      let r = run_length w arguments argument_ends f (s.runs.arguments.rise f h) (run_fits w (layout_of w) arguments argument_ends s.runs.arguments arguments_fit f h) in
      let cell = cell_below w (layout_of w) arguments argument_ends s.runs.arguments arguments_fit f h in
      record {
        names = λ j q. let g : arguments_start w f + j < word_at w argument_ends f = omega (arith, r) in subst (λ (x : ℕ). get_or (run_of w arguments argument_ends f) x 0 < name_count w) (zero_more (argument_words * j)) (cell 0 (arguments_at w + 0) (lit< tt) (omega arith) s.words.argument_name_fits j g);
        types = λ j q. let g : arguments_start w f + j < word_at w argument_ends f = omega (arith, r) in cell 1 (arguments_at w + 1) (lit< tt) (omega arith) s.words.argument_type_fits j g;
        within = omega (arith, r, s.runs.arguments.rise f h, s.runs.arguments.inside f h, s.laid.arguments_most);
      }

-- what cutting row i's rows out of the table asks
abbrev pub Cut : List ℕ → Column → Column → ℕ → Type 0
Cut w first ends i = Inside w ends × ((i < ends.rows) × ((start_at w ends i ≤ word_at w ends i) × (first.base + first.width * word_at w ends i ≤ length w)))

cut : {w : List ℕ} (first ends : Column) → Inside w ends → Runs w ends first.rows → first.base + first.width * first.rows ≤ length w → (i : ℕ) → i < ends.rows → Cut w first ends i
cut first ends inside runs fits i h =
    let m : first.width * word_at _ ends i ≤ first.width * first.rows = mul-le-mul_left first.width (runs.inside i h) in
    (inside, (h, (runs.rise i h, omega arith)))

module _ (w : List ℕ) (l : Layout) (s : SoundRows w l) where
  -- a fact of the table's layout is a fact of l
  of : (P : Layout → Type 0) → (SoundRows w (layout_of w) → P (layout_of w)) → P l
  of P p = subst P (sym s.laid.same) (p (subst (SoundRows w) s.laid.same s))

  pub edges_cut : (t : ℕ) → t < l.types → (first ends : Column) → first ≡ edge_names l → ends ≡ edges_ends l → Cut w first ends t
  edges_cut t h first ends p q =
      rw (p, q) (of (λ x. t < x.types → Cut w (edge_names x) (edges_ends x) t) (λ s. cut (edge_names (layout_of w)) (edges_ends (layout_of w)) (inside_type s.laid 3 (lit< tt)) s.runs.edges (omega (arith, s.laid.values_at_is)) t) h)

  pub edges_part : (t : ℕ) → t < l.types → (first ends : Column) → first ≡ edge_names l → ends ≡ edges_ends l → (r : List ℕ) → r ≡ run_of w first ends t → (r ≡ edges_of w t) × NamePart l (edges_start w t) r
  unfolding edges_of
  edges_part t h first ends p q r e =
      let g : r ≡ edges_of w t = rw (p, q, s.laid.same) at e in
      (g, subst (λ (x : List ℕ). NamePart l (edges_start w t) x) (sym g) (of (λ x. t < x.types → NamePart x (edges_start w t) (edges_of w t)) (λ s. edges_own s t) h))

  pub members_cut : (t : ℕ) → t < l.types → (first ends : Column) → first ≡ member_names l → ends ≡ members_ends l → Cut w first ends t
  members_cut t h first ends p q =
      rw (p, q) (of (λ x. t < x.types → Cut w (member_names x) (members_ends x) t) (λ s. cut (member_names (layout_of w)) (members_ends (layout_of w)) (inside_type s.laid 5 (lit< tt)) s.runs.members (omega (arith, s.laid.values_at_is)) t) h)

  pub members_part : (t : ℕ) → t < l.types → (first ends : Column) → first ≡ member_names l → ends ≡ members_ends l → (r : List ℕ) → r ≡ run_of w first ends t → (r ≡ members_of w t) × NamePart l (members_start w t) r
  unfolding members_of
  members_part t h first ends p q r e =
      let g : r ≡ members_of w t = rw (p, q, s.laid.same) at e in
      (g, subst (λ (x : List ℕ). NamePart l (members_start w t) x) (sym g) (of (λ x. t < x.types → NamePart x (members_start w t) (members_of w t)) (λ s. members_own s t) h))

  pub values_cut : (t : ℕ) → t < l.types → (first ends : Column) → first ≡ value_names l → ends ≡ values_ends l → Cut w first ends t
  values_cut t h first ends p q =
      rw (p, q) (of (λ x. t < x.types → Cut w (value_names x) (values_ends x) t) (λ s. cut (value_names (layout_of w)) (values_ends (layout_of w)) (inside_type s.laid 6 (lit< tt)) s.runs.values (omega (arith, s.laid.values_at_is)) t) h)

  pub values_part : (t : ℕ) → t < l.types → (first ends : Column) → first ≡ value_names l → ends ≡ values_ends l → (r : List ℕ) → r ≡ run_of w first ends t → (r ≡ values_of w t) × NamePart l (values_start w t) r
  unfolding values_of
  values_part t h first ends p q r e =
      let g : r ≡ values_of w t = rw (p, q, s.laid.same) at e in
      (g, subst (λ (x : List ℕ). NamePart l (values_start w t) x) (sym g) (of (λ x. t < x.types → NamePart x (values_start w t) (values_of w t)) (λ s. values_own s t) h))

  pub fields_cut : (t : ℕ) → t < l.types → (first ends : Column) → first ≡ field_names l → ends ≡ fields_ends l → Cut w first ends t
  fields_cut t h first ends p q =
      rw (p, q) (of (λ x. t < x.types → Cut w (field_names x) (fields_ends x) t) (λ s. cut (field_names (layout_of w)) (fields_ends (layout_of w)) (inside_type s.laid 4 (lit< tt)) s.runs.fields (omega (arith, s.laid.values_at_is)) t) h)

  pub fields_part : (t : ℕ) → t < l.types → (first ends : Column) → first ≡ field_names l → ends ≡ fields_ends l → (r : List ℕ) → r ≡ run_of w first ends t → (r ≡ fields_of w t) × FieldPart l (fields_start w t) r
  unfolding fields_of
  fields_part t h first ends p q r e =
      let g : r ≡ fields_of w t = rw (p, q, s.laid.same) at e in
      (g, subst (λ (x : List ℕ). FieldPart l (fields_start w t) x) (sym g) (of (λ x. t < x.types → FieldPart x (fields_start w t) (fields_of w t)) (λ s. fields_own s t) h))

  pub arguments_cut : (f : ℕ) → f < l.fields → (first ends : Column) → first ≡ argument_names l → ends ≡ arguments_ends l → Cut w first ends f
  arguments_cut f h first ends p q =
      rw (p, q) (of (λ x. f < x.fields → Cut w (argument_names x) (arguments_ends x) f) (λ s. cut (argument_names (layout_of w)) (arguments_ends (layout_of w)) (inside_field s.laid 3 (lit< tt)) s.runs.arguments (omega (arith, s.laid.values_at_is)) f) h)

  pub arguments_part : (f : ℕ) → f < l.fields → (first ends : Column) → first ≡ argument_names l → ends ≡ arguments_ends l → (r : List ℕ) → r ≡ run_of w first ends f → (r ≡ arguments_of w f) × ArgumentPart l (arguments_start w f) r
  unfolding arguments_of
  arguments_part f h first ends p q r e =
      let g : r ≡ arguments_of w f = rw (p, q, s.laid.same) at e in
      (g, subst (λ (x : List ℕ). ArgumentPart l (arguments_start w f) x) (sym g) (of (λ x. f < x.fields → ArgumentPart x (arguments_start w f) (arguments_of w f)) (λ s. arguments_own s f) h))

pub type_count_lem : (w : List ℕ) (l : Layout) → Laid w l → l.types ≡ type_count w
type_count_lem w l laid = ap (λ (x : Layout). x.types) laid.same

-- a type's name is a name
pub type_name_below : (w : List ℕ) (l : Layout) → SoundRows w l → (t : ℕ) → t < l.types → type_name w t < l.names
type_name_below w l s t = of w l s (λ x. t < x.types → type_name w t < x.names) (λ s. s.words.type_name_fits t)

-- and its kind a kind
pub type_kind_below : (w : List ℕ) (l : Layout) → SoundRows w l → (t : ℕ) → t < l.types → type_kind w t < kinds
type_kind_below w l s t = of w l s (λ x. t < x.types → type_kind w t < kinds) (λ s. s.words.type_kind_fits t)
