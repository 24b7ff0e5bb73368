-- The chain fields of a well-formed table can be read, and belong to input objects; what an answer of `chain_to` says.
use mathlib.Core.Path.{◌≡◌, refl, sym, ap, ◌∙◌}
use mathlib.Core.Bool.{true, false, ◌&&◌}
use mathlib.Core.Logic.{⊎_elim, ◌↔◌}
use mathlib.Core.List.{List}
use Prim.Native.Nat.{ℕ, suc, ◌≤◌, ◌<◌}
use native.Mathlib.Omega.{arith}
use lib.Dec.{leb, ltb, eqb}
use borrow.Author.Tests.{lt-ltb, le-ltb}
use Rattle.names.proofs.BoolLaws.{decide, and_true, and_false}
use Rattle.table.specs.declared.layout.Layout.{Layout}
use Rattle.table.specs.Layout.{type_count, field_count, most_types, most_fields, fields_start, fields_end, start_at}
use Rattle.wellformed.specs.Sound.{Sound}
use Rattle.table.specs.declared.numbers.TypeRow.{TypeRow}
use Rattle.std.specs.Prelude.{Option, Some, None}
use Rattle.rows.specs.Types.{found_at}
use Rattle.rows.specs.Readable.{SoundRows}
use Rattle.rows.proofs.FoundTypes.{at_below, at_row, nothing_none}
use Rattle.links.specs.Chains.{Graph}
use Rattle.chains.specs.Cycles.{PathTo, PathTo.last, PathTo.step}
use Rattle.links.specs.Fields.{is_input_object, chains_end, chain_graph}
use Rattle.links.proofs.FieldLaws.{chain_field_lem, field_chain}
use Rattle.evidence.specs.Rules.{nearer, chain_field, comes_in}
use Rattle.evidence.specs.Reaches.{Reaches, FieldsTo, FieldsTo.last, FieldsTo.step}
use Rattle.evidence.specs.ChainTo.{chain_to}
use Rattle.evidence.proofs.Marks.{reach_one, reach_more}
use Rattle.evidence.proofs.CanonicalPasses.{Inputs}

-- the fields that may be chain fields end within the type's
module _ (w : List ℕ) (t : ℕ) where
  end_least : fields_start w t ≤ fields_end w t → chains_end w t ≤ fields_end w t
  unfolding chains_end
  end_least h =
      ⊎_elim
      (λ (b : is_input_object w t ≡ true). rw b (omega arith))
      (λ (b : is_input_object w t ≡ false). rw b h)
      (decide (is_input_object w t))

  -- the next type's fields start where its end
  next_start : fields_start w (suc t) ≡ fields_end w t
  unfolding start_at
  next_start = refl

-- the fields of a type come before those of the next
pub record Rising (g : Graph) : Type 0 where
  pub ends : (t : ℕ) → t < g.types → g.stop t ≤ g.start (suc t)
  pub rises : (t : ℕ) → t < g.types → g.start t ≤ g.start (suc t)

-- what is known of the chain fields of a table with its layout
pub record Chained (w : List ℕ) (l : Layout) : Type 0 where
  pub types : l.types ≡ type_count w
  pub types_few : l.types ≤ most_types
  pub fields_few : l.fields ≤ most_fields
  pub inside : (t : ℕ) → t < l.types → chains_end w t ≤ l.fields
  pub rising : Rising (chain_graph w)

pub chained : {w : List ℕ} {l : Layout} → SoundRows w l → Chained w l
chained {w} {l} s =
    let e : l.types ≡ type_count w = ap (λ (x : Layout). x.types) s.laid.same in
    let f : l.fields ≡ field_count w = ap (λ (x : Layout). x.fields) s.laid.same in
    record {
      types = e;
      types_few = s.laid.types_most;
      fields_few = s.laid.fields_most;
      inside = λ t h.
          let b : t < type_count w = omega arith in
          let x = s.runs.fields.rise t b in
          let y = s.runs.fields.inside t b in
          let z = end_least w t x in
          omega arith;
      rising =
          record {
            ends = λ t h. rw (next_start w t) (end_least w t (s.runs.fields.rise t h));
            rises = λ t h. rw (next_start w t) (s.runs.fields.rise t h);
          };
    }

-- only input objects have chain fields
pub input_owners : (w : List ℕ) → Inputs (chain_graph w) (is_input_object w)
input_owners w t f u h c = (chain_field_lem w t f u h c).input

-- chains of a well-formed table's graph are chains of its chain fields
module _ {text w : List ℕ} (s : Sound text w) where
  path_fields : {u t : ℕ} {fs vs : List ℕ} → t < type_count w → PathTo (chain_graph w) u t fs vs → FieldsTo w u t
  path_fields {u} h (last {t} {f} c) = last (chain_field_lem w t f u h c)
  path_fields h (step {t} {f} {v} c p) = step (chain_field_lem w t f v h c) (path_fields c.type p)

  fields_reach : {u t : ℕ} → FieldsTo w u t → Reaches (chain_graph w) t u
  fields_reach {u} (last {t} {f} c) = reach_one (chain_graph w) (field_chain w text s t f u c)
  fields_reach (step {t} {f} {v} c p) = reach_more (chain_graph w) (field_chain w text s t f v c) (fields_reach p)

  pub reaches_fields : (t u : ℕ) → t < type_count w → Reaches (chain_graph w) t u ↔ FieldsTo w u t
  reaches_fields t u h = (λ r. path_fields h r.2, fields_reach)

-- what an answer of `chain_to` says
module _ (g : Graph) (t f : ℕ) where
  -- f is a chain field of t to u
  pub record Led (u : TypeRow) : Type 0 where
    pub chain : chain_field g t f ≡ true
    pub leads : g.next f ≡ u.0
    pub type : u.0 < g.types

  led_at : (u : TypeRow) → chain_to g t f ≡ Some u → Led u
  unfolding chain_to
  led_at u e =
      ⊎_elim
      (λ (b : leb (g.start t) f && ltb f (g.stop t) ≡ true).
      let k : found_at (g.next f) g.types ≡ Some u = rw b at e in
      let low = at_below _ _ u k in
      let row = at_row _ _ u k in
      record { chain = and_true b (lt-ltb _ _ low); leads = sym row; type = rw row low })
      (λ (b : leb (g.start t) f && ltb f (g.stop t) ≡ false).
      let k : None ≡ Some u = rw b at e in
      let z : ◌≡◌ {A = ℕ} 0 1 = cc in absurd (omega arith))
      (decide (leb (g.start t) f && ltb f (g.stop t)))

  led_nothing : chain_to g t f ≡ None → chain_field g t f ≡ false
  unfolding chain_to
  led_nothing e =
      ⊎_elim
      (λ (b : leb (g.start t) f && ltb f (g.stop t) ≡ true).
      let k : found_at (g.next f) g.types ≡ None = rw b at e in
      rw (b, le-ltb _ _ (nothing_none _ _ k)))
      (λ (b : leb (g.start t) f && ltb f (g.stop t) ≡ false). rw b)
      (decide (leb (g.start t) f && ltb f (g.stop t)))

  pub led : (r : Option TypeRow) → r ≡ chain_to g t f → (u : TypeRow) → r ≡ Some u → Led u
  led r e u a = led_at u (sym e ∙ a)

  pub not_led : (r : Option TypeRow) → r ≡ chain_to g t f → r ≡ None → chain_field g t f ≡ false
  not_led r e a = led_nothing (sym e ∙ a)

-- what an answer of `target` says
module _ (x n m : ℕ) (same : m ≡ n) (r : Option TypeRow) (e : r ≡ found_at x m) where
  -- the type that a field leads to is u
  pub record Leads (u : TypeRow) : Type 0 where
    pub below : ltb x n ≡ true
    pub row : x ≡ u.0

  pub leads_at : (u : TypeRow) → r ≡ Some u → Leads u
  leads_at u a = let k = sym e ∙ a in record { below = lt-ltb _ _ (rw same at (at_below x m u k)); row = sym (at_row x m u k) }

  pub leads_nowhere : r ≡ None → ltb x n ≡ false
  leads_nowhere a = le-ltb _ _ (rw same at (nothing_none x m (sym e ∙ a)))

-- rule 6 of a field, where its type is not nearer
pub comes_not : (g : Graph) (ev : List ℕ) (t f s : ℕ) → nearer ev t s ≡ false → comes_in g ev t f s ≡ false
comes_not g ev t f s h = and_false (chain_field g s f && eqb (g.next f) t) (nearer ev t s) h
