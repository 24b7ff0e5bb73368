-- What a word that is set, and words that are moved, leave where.
use mathlib.Core.Path.{◌≡◌, ◌∙◌}
use mathlib.Core.Logic.{◌≢◌, ⊎_elim}
use mathlib.Core.List.{List}
use Prim.Native.Nat.{ℕ, ◌+◌, ◌*◌, ◌≤◌, ◌<◌}
use native.Mathlib.Omega.{arith}
use lib.ListN.{length, get_or}
use lib.Seq.{get_or-set_same, get_or-set_other}
use Rattle.names.proofs.BoolLaws.{below_or_from}
use Rattle.table.specs.declared.layout.Column.{Column}
use Rattle.table.specs.Layout.{word_at}
use Rattle.writing.specs.Writing.{with_word, Opened, Closed}

-- the word of the row is the one that was set
pub set_here : (w : List ℕ) (c : Column) (i word : ℕ) → c.base + c.width * i < length w → word_at (with_word w c i word) c i ≡ word
unfolding word_at with_word
set_here w c i word h = get_or-set_same w (c.base + c.width * i) word 0 h

-- and every word of another place, of this column or of another, is as it was
pub set_elsewhere : (w : List ℕ) (c d : Column) (i j word : ℕ) → d.base + d.width * j ≢ c.base + c.width * i → word_at (with_word w c i word) d j ≡ word_at w d j
unfolding word_at with_word
set_elsewhere w c d i j word h = get_or-set_other w (c.base + c.width * i) (d.base + d.width * j) word 0 h

-- room that is opened and closed again leaves every word that had room to move as it was
pub close_open : (at k : ℕ) (w x y : List ℕ) → Opened at k w x → Closed at k x y → (i : ℕ) → i + k < length w → get_or y i 0 ≡ get_or w i 0
close_open at k w x y o c i h =
    ⊎_elim (λ (l : i < at). c.front i l ∙ o.front i (omega arith)) (λ (l : at ≤ i). c.moved i l (let n : i + k < length x = omega (arith, o.same_length) in n) ∙ o.moved i l h) (below_or_from i at)
