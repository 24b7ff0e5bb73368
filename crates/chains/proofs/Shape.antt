-- The graph of a well-formed table has the shape that a search asks for.
use mathlib.Core.Path.{◌≡◌}
use mathlib.Core.Bool.{true, false}
use mathlib.Core.Logic.{⊎_elim}
use mathlib.Core.List.{List}
use Prim.Native.Nat.{ℕ, ◌≤◌, ◌<◌}
use native.Mathlib.Omega.{arith}
use Rattle.names.proofs.BoolLaws.{decide}
use Rattle.table.specs.Layout.{layout_of, type_count, field_count, fields_start, fields_end}
use Rattle.rows.specs.Readable.{SoundRows}
use Rattle.links.specs.Fields.{is_input_object, chains_end, chain_graph}
use Rattle.chains.specs.Answer.{Shaped}

module _ (w : List ℕ) (s : SoundRows w (layout_of w)) where
  ends_within : (t : ℕ) → t < type_count w → chains_end w t ≤ field_count w
  unfolding chains_end
  ends_within t h =
      let a : fields_start w t ≤ fields_end w t = s.runs.fields.rise t h in
      let b : fields_end w t ≤ field_count w = s.runs.fields.inside t h in
      ⊎_elim
      (λ (e : is_input_object w t ≡ true). rw e (omega arith))
      (λ (e : is_input_object w t ≡ false). rw e (omega arith))
      (decide (is_input_object w t))

  pub shaped : Shaped (chain_graph w) (field_count w)
  shaped =
      record {
        types = s.laid.types_most;
        fields = s.laid.fields_most;
        within = ends_within;
      }
