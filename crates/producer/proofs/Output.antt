-- What the producer promises determines every word of the output.
use mathlib.Core.Path.{◌≡◌, sym, ap₂, ◌∙◌}
use mathlib.Core.List.{List, ◌++◌}
use Prim.Native.Nat.{ℕ, ◌*◌}
use lib.ListN.{take, take-append-drop}
use Rattle.links.specs.Chains.{Graph}
use Rattle.evidence.specs.Words.{evidence_words}
use Rattle.evidence.proofs.Unique.{canonical_unique}
use Rattle.producer.specs.Produced.{Made}

-- two outputs from the same one are equal
pub one_output : (g : Graph) (before X Y : List ℕ) → Made g before X → Made g before Y → X ≡ Y
one_output g before X Y a b =
    let n : ℕ = evidence_words * g.types in
    sym (take-append-drop n X)
    ∙ ap₂ ◌++◌ (canonical_unique g (take n X) (take n Y) a.canonical b.canonical) (a.rest ∙ sym b.rest)
    ∙ take-append-drop n Y
