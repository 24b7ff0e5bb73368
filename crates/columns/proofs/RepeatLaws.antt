-- A set of the words met says whether the next word is fresh.
use mathlib.Core.Path.{◌≡◌, refl, sym, ap, ◌∙◌}
use mathlib.Core.Bool.{Bool, true, false, ◌&&◌, ◌||◌, not}
use mathlib.Core.List.{List}
use Prim.Native.Nat.{ℕ, ◌+◌, ◌≤◌}
use native.Mathlib.Omega.{arith}
use lib.ListN.{replicate}
use lib.Dec.{eqb}
use Rattle.names.proofs.BoolLaws.{eqb_turned}
use Rattle.bits.specs.Bits.{has, Added}
use Rattle.bits.proofs.BitLaws.{has_none}
use Rattle.table.specs.declared.layout.Column.{Column}
use Rattle.table.specs.Layout.{word_at}
use Rattle.names.specs.Count.{every}
use Rattle.names.proofs.CountLaws.{every_none, every_next, every_intro}
use Rattle.columns.specs.Columns.{fresh, distinct}

not_and : (a b : Bool) → not (a && not b) ≡ not a || b
not_and true true = refl
not_and true false = refl
not_and false b = refl

not_not : (a b : Bool) → a ≡ not b → b ≡ not a
not_not true true e = e
not_not true false e = refl
not_not false true e = refl
not_not false false e = e

module _ (w : List ℕ) (c : Column) (from : ℕ) where
  -- no row from `from` up to i has the word n
  abbrev unmet : ℕ → ℕ → Bool
  unmet i n = every (λ j. not (eqb n (word_at w c j))) from i

  -- the set holds the words of the rows from `from` up to i, and no other
  abbrev pub Met : List ℕ → ℕ → Type 0
  Met seen i = (n : ℕ) → has seen n ≡ not (unmet i n)

  pub met_none : (k : ℕ) → Met (replicate k 0) from
  met_none k n = has_none k n ∙ ap not (sym (every_none (λ j. not (eqb n (word_at w c j))) from))

  pub met_more : (before after : List ℕ) (i word : ℕ) → from ≤ i → Met before i → word ≡ word_at w c i → Added word before after → Met after (i + 1)
  met_more before after i word h m e a n =
      rw (every_next (λ j. not (eqb n (word_at w c j))) from i h, not_and, a.members n, m n, e, eqb_turned (word_at w c i) n) refl

  -- what the set says of the next row
  pub met_fresh : (seen : List ℕ) (i : ℕ) → Met seen i → fresh w c from i ≡ not (has seen (word_at w c i))
  unfolding fresh
  met_fresh seen i m = not_not _ _ (m (word_at w c i))

  -- fewer than two rows
  pub distinct_short : (to : ℕ) → to ≤ from + 1 → distinct w c from to ≡ true
  unfolding distinct fresh
  distinct_short to h =
      every_intro (fresh w c from) from to (λ i a b. let e : i ≡ from = omega arith in rw e (every_none (λ j. not (eqb (word_at w c from) (word_at w c j))) from))
