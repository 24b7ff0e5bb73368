-- The chains of a table's graph are its chain fields. Type names don't repeat in a well-formed table, so the type that a search by name
-- ends at is the only one of the name.
use mathlib.Core.Path.{◌≡◌, refl, sym, ◌∙◌}
use mathlib.Core.Bool.{true, false, ◌&&◌}
use mathlib.Core.Logic.{⊎_elim}
use mathlib.Core.List.{List}
use Prim.Native.Nat.{ℕ, ◌≤◌, ◌<◌}
use native.Mathlib.Omega.{arith}
use lib.Dec.{eqb}
use borrow.Author.Tests.{eq-eqb, eqb-true, lt-ltb, ltb-true}
use Rattle.names.proofs.BoolLaws.{decide, and_left, and_right}
use Rattle.rows.proofs.FoundTypes.{type_named_at, type_named_only}
use Rattle.rows.specs.Types.{type_named, defined, kind_named}
use Rattle.table.specs.Kinds.{input_object_kind}
use Rattle.table.specs.Layout.{type_count, type_name, fields_start, fields_end, field_type, field_wrap}
use Rattle.wellformed.specs.Sound.{Sound}
use Rattle.links.specs.Chains.{Chain}
use Rattle.links.specs.Fields.{is_input_object, input_object_named, chain_target, chains_end, chain_graph, chain_wrap, ChainField}

module _ (w : List ℕ) where
  -- where the name is an input object's, that is its row; of any other name there is none
  input_found : (n : ℕ) → type_named w n < type_count w → is_input_object w (type_named w n) ≡ true → input_object_named w n ≡ type_named w n
  unfolding input_object_named defined
  input_found n h k = simp (lt-ltb _ _ h, k)

  record Input (n u : ℕ) : Type 0 where
    named : type_name w u ≡ n
    input : is_input_object w u ≡ true

  input_named : (n : ℕ) → input_object_named w n < type_count w → Input n (input_object_named w n)
  unfolding input_object_named defined
  input_named n h =
      ⊎_elim
      (λ (b : defined w n && input_object_kind (kind_named w n) ≡ true).
      rw b (record { named = type_named_at w n (ltb-true _ _ (and_left _ _ b)); input = and_right (defined w n) _ b }))
      (λ (b : defined w n && input_object_kind (kind_named w n) ≡ false).
      let k : type_count w < type_count w = rw b at h in absurd (omega arith))
      (decide (defined w n && input_object_kind (kind_named w n)))

  -- a field that leads to a type has the wrap of a chain field
  wrap_right : (f : ℕ) → chain_target w f < type_count w → (field_wrap w f ≡ chain_wrap) × (chain_target w f ≡ input_object_named w (field_type w f))
  unfolding chain_target
  wrap_right f h =
      ⊎_elim
      (λ (b : eqb (field_wrap w f) chain_wrap ≡ true). rw b (eqb-true _ _ b, refl))
      (λ (b : eqb (field_wrap w f) chain_wrap ≡ false). let k : type_count w < type_count w = rw b at h in absurd (omega arith))
      (decide (eqb (field_wrap w f) chain_wrap))

  -- a type with a row that may be a chain field is an input object
  pub end_right : (t f : ℕ) → fields_start w t ≤ f → f < chains_end w t → (is_input_object w t ≡ true) × (chains_end w t ≡ fields_end w t)
  unfolding chains_end
  end_right t f a h =
      ⊎_elim
      (λ (b : is_input_object w t ≡ true). (b, rw b))
      (λ (b : is_input_object w t ≡ false). let k : f < fields_start w t = rw b at h in absurd (omega arith))
      (decide (is_input_object w t))

  -- a chain of the graph is a chain field
  pub chain_field_lem : (t f u : ℕ) → t < type_count w → Chain (chain_graph w) t f u → ChainField w t f u
  chain_field_lem t f u h c =
      let e = end_right t f c.low c.high in
      let k : chain_target w f < type_count w = rw c.leads c.type in
      let r = wrap_right f k in
      let m : input_object_named w (field_type w f) ≡ u = sym r.1 ∙ c.leads in
      let n : Input (field_type w f) u = rw m at (input_named (field_type w f) (rw m c.type)) in
      record {
        owner = h;
        input = e.0;
        low = c.low;
        high = rw e.1 at c.high;
        wrap = r.0;
        type = c.type;
        named = n.named;
        again = n.input;
      }

  -- a chain field of a table where no two types have one name is a chain of the graph
  pub field_chain : (text : List ℕ) → Sound text w → (t f u : ℕ) → ChainField w t f u → Chain (chain_graph w) t f u
  unfolding chains_end chain_target
  field_chain text s t f u c =
      let same : type_named w (field_type w f) ≡ u = type_named_only w (field_type w f) s u c.type c.named in
      let b : type_named w (field_type w f) < type_count w = rw same c.type in
      record {
        low = c.low;
        high = rw c.input c.high;
        leads = rw (eq-eqb _ _ c.wrap) (input_found (field_type w f) b (rw same c.again) ∙ same);
        type = c.type;
      }
