-- A pass over one column leaves the words right that it needs, and what it is asked the same.
use mathlib.Core.List.{List}
use Prim.Native.Nat.{ℕ, ◌<◌}
use native.Mathlib.Omega.{arith}
use Rattle.links.specs.Chains.{Graph}
use Rattle.evidence.specs.declared.row.EvidenceColumn.{EvidenceColumn}
use Rattle.evidence.specs.declared.row.EvidenceColumn.TheVariants.{Number, Leader, OutField, OutDistance, InField, InDepth}
use Rattle.evidence.specs.Words.{evidence_words, place_of}
use Rattle.producer.specs.Produced.{OnlyColumn, WordIs, AllRight, found_from}
use Rattle.producer.proofs.PassLaws.{numbered_kept, led_kept, distance_kept, depth_kept}
use Rattle.producer.proofs.ChoiceLaws.{measured_kept, out_kept, in_kept}

-- a word stands within its row
pub place_low : (k : EvidenceColumn) → place_of k < evidence_words
place_low Number = omega arith
place_low Leader = omega arith
place_low OutDistance = omega arith
place_low InDepth = omega arith
place_low OutField = omega arith
place_low InField = omega arith

module _ (g : Graph) {n : ℕ} {W X : List ℕ} where
  pub known_kept : (k : EvidenceColumn) → OnlyColumn (place_of k) n W X → AllRight g (found_from k) W → AllRight g (found_from k) X
  known_kept Number c h = h
  known_kept Leader c h = (numbered_kept g c (omega arith) h.0, tt)
  known_kept OutDistance c h = (led_kept g c (omega arith) h.0, tt)
  known_kept InDepth c h = (led_kept g c (omega arith) h.0, tt)
  known_kept OutField c h = measured_kept g c (omega arith) (omega arith) (omega arith) h
  known_kept InField c h = measured_kept g c (omega arith) (omega arith) (omega arith) h

  pub word_kept : (k : EvidenceColumn) → OnlyColumn (place_of k) n W X → (t v : ℕ) → t < g.types → WordIs g k X t v → WordIs g k W t v
  word_kept Number c t v l h = h
  word_kept Leader c t v l h = h
  word_kept OutDistance c t v l h = distance_kept g c (omega arith) t v h
  word_kept InDepth c t v l h = depth_kept g c (omega arith) t v h
  word_kept OutField c t v l h = out_kept g c (omega arith) (omega arith) (omega arith) t v l h
  word_kept InField c t v l h = in_kept g c (omega arith) (omega arith) (omega arith) t v l h
