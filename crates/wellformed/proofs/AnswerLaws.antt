-- What a verdict tells: its number tells the verdict, and the verdict that a table is well-formed makes it sound.
use mathlib.Core.Path.{◌≡◌, refl, sym, ap, ◌∙◌}
use mathlib.Core.List.{List}
use Prim.Native.Nat.{ℕ}
use native.Mathlib.Omega.{arith}
use Rattle.std.specs.Prelude.{Ok, Err}
use Rattle.table.proofs.AnswerLaws.{one_malformed}
use Rattle.wellformed.specs.Answers.{Verdict, verdict_number, Proper}
use Rattle.wellformed.specs.WellFormed.{refusal}
use Rattle.wellformed.specs.Sound.{Sound}
use Rattle.wellformed.proofs.SoundLaws.{sound}

-- the promise of `check_table` allows one answer only
pub one_verdict : (a b : Verdict) → Proper a → Proper b → verdict_number a ≡ verdict_number b → a ≡ b
one_verdict (Ok u) (Ok v) p q e = refl
one_verdict (Ok u) (Err r) p q e = absurd (omega arith)
one_verdict (Err r) (Ok v) p q e = absurd (omega arith)
one_verdict (Err r) (Err s) p q e = ap Err (one_malformed r s e)

-- what a caller learns from the verdict
pub verdict_sound : (v : Verdict) (text w : List ℕ) → verdict_number v ≡ refusal text w → v ≡ Ok tt → Sound text w
verdict_sound v text w e q = sound text w (sym e ∙ ap verdict_number q)
