-- Promises: how they are met, and that they allow one answer only.
use mathlib.Core.Path.{◌≡◌, refl, sym, ap, ◌∙◌}
use mathlib.Core.Logic.{◌≢◌, ⊎_elim}
use mathlib.Core.List.{List, ◌++◌}
use Prim.Native.Nat.{ℕ, zero, suc, ◌≤◌, ◌<◌}
use native.Mathlib.Omega.{arith}
use lib.Dec.{ltb, eqb}
use lib.ListN.{length, drop, replicate}
use borrow.Author.Tests.{eqb-true, eqb-false, ltb-true, ltb-false}
use Rattle.names.proofs.BoolLaws.{decide}
use Rattle.table.proofs.AnswerLaws.{malformed_of, malformed_back}
use Rattle.table.specs.declared.refusal.Malformed.{Malformed}
use Rattle.table.specs.declared.refusal.Malformed.TheVariants.{TooFewWords, AboveLimit, WrongLength, BadNames, BadWord, Twice}
use Rattle.table.specs.Refusals.{short_out}
use Rattle.std.specs.Prelude.{Ok, Err}
use Rattle.lhakvuni.specs.declared.refusal.Refusal.{Refusal}
use Rattle.lhakvuni.specs.declared.refusal.Refusal.TheVariants.{Malformed as Refused, NoInputObject, WrongEvidence, ShortWork, ShortOut}
use Rattle.lhakvuni.specs.Answers.{Answer, refusal_number, need_of, Returned}
use Rattle.lhakvuni.specs.Promise.{Output, Promised}

-- the refusal of a number and of what is returned beside it
call_refusal : ℕ → ℕ → Refusal
call_refusal zero v = NoInputObject
call_refusal (suc zero) v = WrongEvidence
call_refusal (suc (suc zero)) v = ShortWork
call_refusal n v = ShortOut v

pub refusal_of : ℕ → ℕ → Refusal
refusal_of (suc (suc (suc (suc (suc (suc (suc n))))))) v = call_refusal n v
refusal_of n v = Refused (malformed_of n)

malformed_again : (m : Malformed) (v : ℕ) → refusal_of (refusal_number (Refused m)) v ≡ Refused (malformed_of (refusal_number (Refused m)))
unfolding refusal_of
malformed_again TooFewWords v = refl
malformed_again AboveLimit v = refl
malformed_again WrongLength v = refl
malformed_again BadNames v = refl
malformed_again BadWord v = refl
malformed_again Twice v = refl

pub refusal_back : (r : Refusal) → refusal_of (refusal_number r) (need_of r 0) ≡ r
unfolding refusal_of call_refusal
refusal_back (Refused m) = malformed_again m 0 ∙ ap Refused (malformed_back m)
refusal_back NoInputObject = refl
refusal_back WrongEvidence = refl
refusal_back ShortWork = refl
refusal_back (ShortOut need) = refl

-- a refusal's number isn't 0
pub some_number : (r : Refusal) → 1 ≤ refusal_number r
some_number (Refused TooFewWords) = omega arith
some_number (Refused AboveLimit) = omega arith
some_number (Refused WrongLength) = omega arith
some_number (Refused BadNames) = omega arith
some_number (Refused BadWord) = omega arith
some_number (Refused Twice) = omega arith
some_number NoInputObject = omega arith
some_number WrongEvidence = omega arith
some_number ShortWork = omega arith
some_number (ShortOut need) = omega arith

returned_short : (a : Answer) (n : ℕ) → a ≡ Err (ShortOut n) → Returned a short_out (λ _. n)
returned_short a n e = rw e record { number_is = refl; value_is = λ v. refl }

returned_rows : (a : Answer) (n : ℕ) → a ≡ Ok n → Returned a 0 (λ _. n)
returned_rows a n e = rw e record { number_is = refl; value_is = λ v. refl }

-- a number and a value belong to one answer
pub returned_one : (a b : Answer) (n : ℕ) (f : ℕ → ℕ) → Returned a n f → Returned b n f → a ≡ b
returned_one (Ok x) (Ok y) n f p q = ap Ok (p.value_is 0 ∙ sym (q.value_is 0))
returned_one (Ok x) (Err r) n f p q = absurd (omega (arith, p.number_is, q.number_is, some_number r))
returned_one (Err r) (Ok y) n f p q = absurd (omega (arith, p.number_is, q.number_is, some_number r))
returned_one (Err r) (Err s) n f p q =
    let number : refusal_number r ≡ refusal_number s = p.number_is ∙ sym q.number_is in
    let need : need_of r 0 ≡ need_of s 0 = p.value_is 0 ∙ sym (q.value_is 0) in
    let same : refusal_of (refusal_number r) (need_of r 0) ≡ refusal_of (refusal_number s) (need_of s 0) = rw (number, need) refl in
    ap Err (sym (refusal_back r) ∙ same ∙ refusal_back s)

pub output_short : (rows : ℕ) (words out : List ℕ) (a : Answer) → length out < length words → a ≡ Err (ShortOut (length words)) → Output rows words out out a
output_short rows words out a h e = record { short = λ _. (returned_short a (length words) e, refl); done = λ k. absurd (omega arith) }

pub output_done : (rows : ℕ) (words out out' : List ℕ) (a : Answer) → length words ≤ length out → a ≡ Ok rows
    → out' ≡ words ++ drop (length words) out → Output rows words out out' a
output_done rows words out out' a h e f = record { short = λ k. absurd (omega arith); done = λ _. (returned_rows a rows e, f) }

module _ (number k rows : ℕ) (words work out : List ℕ) where
  -- a refusal but 10, which has no value of its own
  pub promise_refused : (r : Refusal) → number ≡ refusal_number r → ((v : ℕ) → need_of r v ≡ v) → Promised number k rows words work out work out (Err r)
  promise_refused r e need = record { refused = λ _. (record { number_is = sym e; value_is = need }, (refl, refl)); given = λ z. absurd (omega (arith, some_number r)) }

  pub promise_given : (work' out' : List ℕ) (a : Answer) → number ≡ 0 → Output rows words out out' a → work' ≡ replicate k 0 ++ drop k work
      → Promised number k rows words work out work' out' a
  promise_given work' out' a z o e = record { refused = λ h. absurd (h z); given = λ _. (o, e) }

  -- two answers that meet one promise are equal, lent memory included
  pub one_answer : (w₁ o₁ w₂ o₂ : List ℕ) (a₁ a₂ : Answer) → Promised number k rows words work out w₁ o₁ a₁ → Promised number k rows words work out w₂ o₂ a₂
      → (a₁ ≡ a₂) × ((w₁ ≡ w₂) × (o₁ ≡ o₂))
  one_answer w₁ o₁ w₂ o₂ a₁ a₂ p q =
      ⊎_elim (λ z. given (eqb-true number 0 z)) (λ z. let n = eqb-false number 0 z in refusal n) (decide (eqb number 0))
    where
      refusal : number ≢ 0 → (a₁ ≡ a₂) × ((w₁ ≡ w₂) × (o₁ ≡ o₂))
      refusal n =
          let x = p.refused n in
          let y = q.refused n in
          (returned_one a₁ a₂ _ _ x.0 y.0, (x.1.0 ∙ sym y.1.0, x.1.1 ∙ sym y.1.1))

      given : number ≡ 0 → (a₁ ≡ a₂) × ((w₁ ≡ w₂) × (o₁ ≡ o₂))
      given z =
          let x = p.given z in
          let y = q.given z in
          ⊎_elim
          (λ b. let h = ltb-true (length out) (length words) b in
          let s = x.0.short h in
          let t = y.0.short h in
          (returned_one a₁ a₂ _ _ s.0 t.0, (x.1 ∙ sym y.1, s.1 ∙ sym t.1)))
          (λ b. let h = ltb-false (length out) (length words) b in
          let s = x.0.done h in
          let t = y.0.done h in
          (returned_one a₁ a₂ _ _ s.0 t.0, (x.1 ∙ sym y.1, s.1 ∙ sym t.1)))
          (decide (ltb (length out) (length words)))

-- nor does an answer depend on what the lent memory held before: it is the same for any memory of the same lengths
module _ (number k rows : ℕ) (words work out work₂ out₂ : List ℕ) (long : length out ≡ length out₂) where
  pub same_answer : (w₁ o₁ w₂ o₂ : List ℕ) (a b : Answer) → Promised number k rows words work out w₁ o₁ a → Promised number k rows words work₂ out₂ w₂ o₂ b → a ≡ b
  same_answer w₁ o₁ w₂ o₂ a b p q =
      ⊎_elim
      (λ z. given (eqb-true number 0 z))
      (λ z. let n = eqb-false number 0 z in returned_one a b _ _ (p.refused n).0 (q.refused n).0)
      (decide (eqb number 0))
    where
      given : number ≡ 0 → a ≡ b
      given z =
          ⊎_elim
          (λ c. let h = ltb-true (length out) (length words) c in returned_one a b _ _ ((p.given z).0.short h).0 ((q.given z).0.short (rw long at h)).0)
          (λ c. let h = ltb-false (length out) (length words) c in returned_one a b _ _ ((p.given z).0.done h).0 ((q.given z).0.done (rw long at h)).0)
          (decide (ltb (length out) (length words)))
