-- The theorems on evidence, in one place: for a well-formed table w, and any words ev that someone hands over.
use mathlib.Core.Path.{◌≡◌, refl}
use mathlib.Core.Logic.{◌⊎◌, inl, inr, ◌↔◌}
use mathlib.Core.List.{List}
use Prim.Native.Nat.{ℕ, ◌≤◌, ◌<◌}
use native.Mathlib.Omega.{arith}
use Rattle.table.specs.Layout.{none, type_count}
use Rattle.wellformed.specs.Sound.{Sound}
use Rattle.links.specs.Fields.{is_input_object, chain_graph}
use Rattle.std.specs.Prelude.{Some, None}
use Rattle.evidence.specs.Judged.{Judged, KeepsRules, judged_of, FirstBroken}
use Rattle.evidence.specs.Reaches.{OnClosedChain, FieldsTo}
use Rattle.evidence.specs.Canonical.{Canonical}
use Rattle.evidence.proofs.Kept.{Marked}
use Rattle.evidence.proofs.Marks.{marks_right}
use Rattle.evidence.proofs.JudgedLaws.{passes_judged, broken_judged}
use Rattle.evidence.proofs.Unique.{canonical_unique}
use Rattle.evidence.proofs.CanonicalPasses.{canonical_passes}
use Rattle.evidence.proofs.Exists.{evidence, evidence_canonical}
use Rattle.evidence.proofs.ChainLaws.{input_owners, reaches_fields}

module _ (w ev : List ℕ) where
  -- the answer is to pass exactly if every row keeps every rule, so any evidence that keeps the seven rules passes
  pub pass_keeps : (judged_of w ev ≡ None) ↔ KeepsRules w ev
  pass_keeps = ((passes_judged (chain_graph w) (is_input_object w) ev).1, (passes_judged (chain_graph w) (is_input_object w) ev).0)

  -- and else it is the first row in row order that breaks a rule, with its lowest rule
  pub broken_first : (t k : ℕ) → (judged_of w ev ≡ Some (record { row = record { 0 = t }; rule = k })) ↔ FirstBroken (chain_graph w) (is_input_object w) ev (type_count w) t k
  broken_first t k = ((broken_judged (chain_graph w) (is_input_object w) ev t k).1, (broken_judged (chain_graph w) (is_input_object w) ev t k).0)

  -- there is no third answer
  pub pass_or_broken : (judged_of w ev ≡ None) ⊎ ((t : ℕ) × (k : ℕ) × FirstBroken (chain_graph w) (is_input_object w) ev (type_count w) t k)
  pass_or_broken = go (judged_of w ev) refl
    where
      go : (v : Judged) → judged_of w ev ≡ v → (judged_of w ev ≡ None) ⊎ ((t : ℕ) × (k : ℕ) × FirstBroken (chain_graph w) (is_input_object w) ev (type_count w) t k)
      go None e = inl e
      go (Some b) e = inr (b.row.0, b.rule, (broken_first b.row.0 b.rule).0 e)

  -- evidence that passes marks a type exactly if some closed chain runs through it
  pub marks_closed : judged_of w ev ≡ None → (t : ℕ) → t < type_count w → Marked ev t ↔ OnClosedChain (chain_graph w) t
  marks_closed p t h = marks_right (chain_graph w) (is_input_object w) ev (pass_keeps.0 p) t h

-- two tables of evidence that are what our producer writes are equal: every word is determined
pub canonical_one : (w ev ev' : List ℕ) → Canonical (chain_graph w) ev → Canonical (chain_graph w) ev' → ev ≡ ev'
canonical_one w = canonical_unique (chain_graph w)

module _ {text w : List ℕ} (sound : Sound text w) where
  -- the same, with a closed chain said by the table's chain fields alone
  pub marks_fields : (ev : List ℕ) → judged_of w ev ≡ None → (t : ℕ) → t < type_count w → Marked ev t ↔ FieldsTo w t t
  marks_fields ev p t h =
      let a = marks_closed w ev p t h in
      let b = reaches_fields sound t t h in
      (λ m. b.0 (a.0 m), λ c. a.1 (b.1 c))

  -- what our producer writes passes
  pub canonical_pass : (ev : List ℕ) → Canonical (chain_graph w) ev → judged_of w ev ≡ None
  canonical_pass ev c =
      let small : type_count w ≤ none = omega (arith, sound.laid.types_most) in
      (pass_keeps w ev).1 (canonical_passes (chain_graph w) (is_input_object w) (input_owners w) small ev c)

  -- and there is such evidence, so every well-formed table has evidence that passes
  pub some_evidence : (ev : List ℕ) × Canonical (chain_graph w) ev × (judged_of w ev ≡ None)
  some_evidence = let c = evidence_canonical (chain_graph w) in (evidence (chain_graph w), c, canonical_pass (evidence (chain_graph w)) c)
