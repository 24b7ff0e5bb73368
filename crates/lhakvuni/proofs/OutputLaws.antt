-- What the rules and the search leave in the output, as the promises say it.
use mathlib.Core.Path.{◌≡◌, refl, sym, ap, subst, ◌∙◌}
use mathlib.Core.List.{List, ◌∷◌, [], ◌++◌, append-nil}
use Prim.Native.Nat.{ℕ, ◌*◌, ◌-◌, ◌≤◌, ◌<◌}
use native.Mathlib.Omega.{arith}
use lib.ListN.{length, take, drop, length-take, length-drop, drop_of_length-le}
use lib.Seq.{take_all}
use Rattle.records.specs.declared.Record.{Record}
use Rattle.records.specs.Records.{Emitted, flat, row_words}
use Rattle.records.proofs.Records.{flat_length}
use Rattle.links.specs.Chains.{Graph}
use Rattle.chains.specs.Answer.{CycleCount, CycleAnswered}
use Rattle.chains.proofs.Order.{rows_unique}
use Rattle.std.specs.Prelude.{Ok, Err}
use Rattle.lhakvuni.specs.declared.refusal.Refusal.TheVariants.{ShortOut}
use Rattle.lhakvuni.specs.Promise.{Output}
use Rattle.lhakvuni.specs.Outputs.{CycleOutput}
use Rattle.lhakvuni.proofs.PromiseLaws.{output_short, output_done}

no_words : (l : List ℕ) → length l ≡ 0 → l ≡ []
no_words [] h = refl
no_words (x ∷ l) h = absurd (omega arith)

-- lending the empty part at the end changes nothing
end_same : (o t : List ℕ) (k : ℕ) → k ≡ length o → length t ≡ length (take (length o - k) (drop k o)) → take k o ++ (t ++ drop (length o - k) (drop k o)) ≡ o
end_same o t k e h =
    let z : length t ≡ 0 = omega (arith, h, length-take (length o - k) (drop k o), length-drop k o) in
    let q : length (drop k o) ≤ length o - k = omega (arith, length-drop k o) in
    let f : drop (length o - k) (drop k o) ≡ [] = drop_of_length-le (drop k o) q in
    rw (no_words t z, f, append-nil, take_all k o (omega arith))

pub end_emitted : (L : List Record) (o t : List ℕ) (k n : ℕ) → k ≡ length o → Emitted L (take (length o - k) (drop k o)) t n
    → take k o ++ (t ++ drop (length o - k) (drop k o)) ≡ o
end_emitted L o t k n e m = end_same o t k e m.same

-- the list of records
module _ (L : List Record) (n need : ℕ) (out mid : List ℕ) (count : n ≡ length L) (words : need ≡ row_words * n) (same : mid ≡ out) where
  need_is : need ≡ length (flat L)
  need_is = omega (arith, flat_length L)

  pub records_none : n ≡ 0 → Output (length L) (flat L) out mid (Ok 0)
  records_none z =
      let k : length (flat L) ≡ 0 = omega (arith, flat_length L) in
      output_done (length L) (flat L) out mid (Ok 0) (omega arith) (ap Ok (sym z ∙ count)) (rw (no_words (flat L) k) same)

  pub records_short : length mid < need → Output (length L) (flat L) out mid (Err (ShortOut need))
  records_short h =
      let k : length out < length (flat L) = omega (arith, need_is, ap length same) in
      subst (λ (o : List ℕ). Output (length L) (flat L) out o (Err (ShortOut need))) (sym same) (output_short (length L) (flat L) out (Err (ShortOut need)) k (ap (λ (x : ℕ). Err (ShortOut x)) need_is))

  pub records_done : (out' : List ℕ) (m : ℕ) → need ≤ length mid → Emitted L mid out' m → Output (length L) (flat L) out out' (Ok n)
  records_done out' m h e =
      let c : row_words * m ≡ length (flat L) = omega (arith, e.count, flat_length L) in
      let r : out' ≡ flat L ++ drop (row_words * m) mid = e.room (omega (arith, e.count)) in
      output_done (length L) (flat L) out out' (Ok n) (omega (arith, need_is, ap length same)) (ap Ok count) (rw (c, same) at r)

-- a first cycle
module _ (g : Graph) (t n : ℕ) (out : List ℕ) (counted : CycleCount g t n) where
  pub cycle_short : length out < n → CycleOutput g t out out (Err (ShortOut n))
  cycle_short h =
      record {
        rows = counted.fields;
        first = counted.right;
        output = output_short (length counted.fields) counted.fields out (Err (ShortOut n)) (omega (arith, counted.count)) (ap (λ (x : ℕ). Err (ShortOut x)) counted.count);
      }

  pub cycle_done : (out' : List ℕ) (m : ℕ) → n ≤ length out → CycleAnswered g t out out' m → CycleOutput g t out out' (Ok n)
  cycle_done out' m h f =
      let e : counted.fields ≡ f.fields = rows_unique g t counted.fields f.fields counted.right f.right in
      let k : n ≡ length f.fields = counted.count ∙ ap length e in
      let a : take (length out) f.fields ≡ f.fields = take_all (length out) f.fields (omega arith) in
      record {
        rows = f.fields;
        first = f.right;
        output = output_done (length f.fields) f.fields out out' (Ok n) (omega arith) (ap Ok k) (rw a at f.written);
      }
