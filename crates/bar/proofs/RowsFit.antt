-- The rows that `records` promises lie in the output, `row_words` each, so a caller reads them with no test of its own.
use mathlib.Core.Path.{◌≡◌, sym, ap, ◌∙◌}
use mathlib.Core.Logic.{⊎_elim}
use mathlib.Core.List.{List}
use Prim.Native.Nat.{ℕ, ◌*◌, ◌≤◌}
use native.Mathlib.Omega.{arith}
use lib.Dec.{ltb, eqb}
use lib.ListN.{length, drop, length-append}
use borrow.Author.Tests.{eqb-true, eqb-false, ltb-true, ltb-false}
use Rattle.names.proofs.BoolLaws.{decide}
use Rattle.records.specs.Records.{row_words, flat}
use Rattle.records.proofs.Records.{flat_length}
use Rattle.std.specs.Prelude.{Ok}
use Rattle.lhakvuni.specs.Answers.{Answer, answer_number, value_of}
use Rattle.lhakvuni.specs.Promise.{Output}
use Rattle.lhakvuni.specs.Calls.{records_number, RecordsKept}

-- an output that is not too short holds the words, and no other answers rows
output_fits : (rows : ℕ) (words out out' : List ℕ) (a : Answer) (n : ℕ) → Output rows words out out' a → a ≡ Ok n → (n ≡ rows) × (length words ≤ length out')
output_fits rows words out out' a n o e =
    ⊎_elim
    (λ b. let h : ◌≡◌ {A = ℕ} 0 10 = sym (ap answer_number e) ∙ (o.short (ltb-true (length out) (length words) b)).0.number_is in absurd (omega arith))
    (λ b. let d = o.done (ltb-false (length out) (length words) b) in
    (sym (ap (λ (x : Answer). value_of x 0) e) ∙ d.0.value_is 0, omega (arith, ap length d.1, length-append words (drop (length words) out))))
    (decide (ltb (length out) (length words)))

pub rows_fit : (text w work out work' out' : List ℕ) (a : Answer) (n : ℕ) → RecordsKept text w work out work' out' a → a ≡ Ok n → row_words * n ≤ length out'
rows_fit text w work out work' out' a n k e =
    ⊎_elim
    (λ b. let f = output_fits (length k.rows) (flat k.rows) out out' a n (k.promise.given (eqb-true (records_number text w work) 0 b)).0 e in
    omega (arith, f.0, f.1, flat_length k.rows))
    (λ b. let z = eqb-false (records_number text w work) 0 b in
    absurd (z (sym (sym (ap answer_number e) ∙ (k.promise.refused z).0.number_is))))
    (decide (eqb (records_number text w work) 0))
