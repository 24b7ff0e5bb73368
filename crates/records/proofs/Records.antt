-- Laws of `Emitted`: nothing, one record, and one list after another through the tail of the output.
use mathlib.Core.Path.{◌≡◌, refl, ap, sym, subst, ◌∙◌}
use mathlib.Core.List.{List, ◌∷◌, [], ◌++◌, append_assoc, append-nil}
use Prim.Native.Nat.{ℕ, ◌+◌, ◌*◌, ◌-◌, ◌≤◌, ◌<◌, min}
use native.Mathlib.Omega.{arith}
use native.Mathlib.Numerals.{add-one}
use lib.ListN.{length, take, drop, length-append, length-drop, length-take, drop_of_length-le}
use lib.Seq.{take_at, drop_at, drop-drop, take_all, sets, sets-eq, length-sets}
use Rattle.records.specs.declared.Record.{Record}
use Rattle.records.specs.Records.{Emitted, each, flat, row_words, words_of}

pub flat_length : (rs : List Record) → length (flat rs) ≡ row_words * length rs
unfolding flat
flat_length [] = refl
flat_length (r ∷ rs) = omega (arith, flat_length rs)

pub flat_append : (rs ss : List Record) → flat (rs ++ ss) ≡ flat rs ++ flat ss
unfolding flat
flat_append [] ss = refl
flat_append (r ∷ rs) ss = ap (λ (l : List ℕ). words_of r ++ l) (flat_append rs ss)

pub each_zero : {A : Type 0} (f : ℕ → List A) → each f 0 ≡ []
unfolding each
each_zero f = refl

-- one row more, as a loop reaches it
pub each_more : {A : Type 0} (f : ℕ → List A) (n : ℕ) → each f (n + 1) ≡ each f n ++ f n
unfolding each
each_more f n = rw add-one refl

pub emit_none : (o : List ℕ) → Emitted [] o o 0
unfolding flat
emit_none o = record { count = refl; room = λ h. refl; same = refl }

module _ (A B : List Record) (o o₁ t : List ℕ) (n₁ n₂ k : ℕ) (e₁ : Emitted A o o₁ n₁) (hk : k ≡ min (row_words * n₁) (length o₁)) (e₂ : Emitted B (take (length o₁ - k) (drop k o₁)) t n₂) where
  seq_rest : drop (length o₁ - k) (drop k o₁) ≡ []
  seq_rest =
      let h : length (drop k o₁) ≤ length o₁ - k = omega (arith, length-drop k o₁) in
      drop_of_length-le (drop k o₁) h

  seq_tail : take (length o₁ - k) (drop k o₁) ≡ drop k o₁
  seq_tail =
      let h : length (drop k o₁) ≤ length o₁ - k = omega (arith, length-drop k o₁) in
      take_all (length o₁ - k) (drop k o₁) h

  seq_count : n₁ + n₂ ≡ length (A ++ B)
  seq_count = omega (arith, length-append A B, e₁.count, e₂.count)

  seq_room : row_words * (n₁ + n₂) ≤ length o → take k o₁ ++ t ≡ flat (A ++ B) ++ drop (row_words * (n₁ + n₂)) o
  seq_room h =
      let h₁ : row_words * n₁ ≤ length o = omega arith in
      let k5 : k ≡ row_words * n₁ = omega (arith, e₁.same) in
      let la : length (flat A) ≡ k = omega (arith, flat_length A, e₁.count) in
      let ho : o₁ ≡ flat A ++ drop (row_words * n₁) o = e₁.room h₁ in
      let ht : take k o₁ ≡ flat A = ap (take k) ho ∙ take_at (flat A) (drop (row_words * n₁) o) k la in
      let hd : drop k o₁ ≡ drop (row_words * n₁) o = ap (drop k) ho ∙ drop_at (flat A) (drop (row_words * n₁) o) k la in
      let h₂ : row_words * n₂ ≤ length (take (length o₁ - k) (drop k o₁)) = omega (arith, ap length hd, ap length seq_tail, length-drop (row_words * n₁) o) in
      let hu : t ≡ flat B ++ drop (row_words * n₂) (drop k o₁) = rw seq_tail at (e₂.room h₂) in
      let hm : row_words * n₁ + row_words * n₂ ≡ row_words * (n₁ + n₂) = omega arith in
      let hv : drop (row_words * n₂) (drop k o₁) ≡ drop (row_words * (n₁ + n₂)) o = ap (drop (row_words * n₂)) hd ∙ drop-drop (row_words * n₂) (row_words * n₁) o ∙ ap (λ (m : ℕ). drop m o) hm in
      rw (ht, hu, hv, flat_append A B, append_assoc) refl

  pub emit_seq : Emitted (A ++ B) o (take k o₁ ++ (t ++ drop (length o₁ - k) (drop k o₁))) (n₁ + n₂)
  emit_seq =
      record {
        count = seq_count;
        room = λ h. rw (seq_rest, append-nil) (seq_room h);
        same = rw (seq_rest, append-nil) (simp (length-append, length-take) (omega (arith, e₁.same, e₂.same, ap length seq_tail, length-drop k o₁)));
      }

pub emit_one : (r : Record) (o : List ℕ) → row_words ≤ length o → Emitted (r ∷ []) o (sets o 0 (words_of r)) 1
unfolding flat
emit_one r o h =
    record {
      count = refl;
      room = λ _. sets-eq (words_of r) o 0 h;
      same = length-sets o 0 (words_of r);
    }

pub emit_short : (r : Record) (o : List ℕ) → length o < row_words → Emitted (r ∷ []) o o 1
emit_short r o h = record { count = refl; room = λ k. absurd (omega arith); same = refl }

-- a rule that writes nothing
pub emit_skip : (A : List Record) (o o' : List ℕ) (n : ℕ) → Emitted A o o' n → Emitted (A ++ []) o o' n
emit_skip A o o' n e = subst (λ (l : List Record). Emitted l o o' n) (sym (append-nil A)) e
