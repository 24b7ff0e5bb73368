-- Stops: how one is found, and how it decides whether a run of bytes continues a name; and the bytes of a name in a text.
use mathlib.Core.Path.{◌≡◌, sym, ap, ◌∙◌}
use mathlib.Core.Bool.{true, false}
use mathlib.Core.List.{List}
use mathlib.Core.Logic.{⊎_elim}
use Prim.Native.Nat.{zero-le, ℕ, ◌+◌, ◌-◌, ◌*◌, ◌/◌, ◌%◌, ◌≤◌, ◌<◌}
use native.Mathlib.Omega.{arith}
use lib.ListN.{length, get_or, drop, set, length-drop}
use lib.Seq.{length-take-le, get_or-take, get_or-drop, get_or-set_same, get_or-set_other}
use lib.Dec.{leb, eqb}
use borrow.Author.Tests.{leb-true, leb-false, eqb-true, eqb-false}
use Rattle.std.specs.List.{AllWithin, HoldsAt}
use Rattle.names.specs.Count.{part}
use Rattle.names.specs.Names.{continues_name, starts_name, is_name}
use Rattle.names.specs.Stops.{continue_between, Stop, Stops}
use Rattle.names.proofs.BoolLaws.{decide}
use Rattle.names.proofs.CountLaws.{every_none, every_more, every_fails, every_join, every_shift, every_at, every_intro}
use Rattle.names.proofs.NameLaws.{name_empty, name_start_lem, name_rest}

module _ (text : List ℕ) where
  -- a run that grows byte by byte
  pub continue_none : (i : ℕ) → continue_between text i i ≡ true
  unfolding continue_between
  continue_none i = every_none (λ j. continues_name (get_or text j 0)) i

  pub continue_more : (from i : ℕ) → from ≤ i → continue_between text from i ≡ true → continues_name (get_or text i 0) ≡ true → continue_between text from (i + 1) ≡ true
  unfolding continue_between
  continue_more from i h a b = every_more (λ j. continues_name (get_or text j 0)) from i h a b

  pub continue_fails : (from to i : ℕ) → from ≤ i → i < to → continues_name (get_or text i 0) ≡ false → continue_between text from to ≡ false
  unfolding continue_between
  continue_fails from to i h k e = every_fails (λ j. continues_name (get_or text j 0)) from to i h k e

  continue_join : (from at to : ℕ) → continue_between text from at ≡ true → continue_between text at to ≡ true → continue_between text from to ≡ true
  unfolding continue_between
  continue_join from at to a b = every_join (λ j. continues_name (get_or text j 0)) from at to a b

  -- a shorter run
  up_to : (from at to : ℕ) → at ≤ to → continue_between text from to ≡ true → continue_between text from at ≡ true
  unfolding continue_between
  up_to from at to h a =
      every_intro (λ j. continues_name (get_or text j 0)) from at (λ i k l. let m : i < to = omega arith in every_at (λ j. continues_name (get_or text j 0)) from to i a k m)

  pub stop_end : Stop text (length text) (length text)
  stop_end = record { after = omega arith; inside = omega arith; passed = continue_none (length text); last = λ h. absurd (omega arith) }

  stop_later : (start end next : ℕ) → start ≤ end → continue_between text start end ≡ true → Stop text end next → Stop text start next
  stop_later start end next h a s =
      record { after = omega (arith, s.after); inside = s.inside; passed = continue_join start end next a s.passed; last = s.last }

  -- the stops of the blocks from k on are found
  abbrev pub StopsFrom : List ℕ → ℕ → Type 0
  StopsFrom stops k = (j : ℕ) → k ≤ j → 64 * j < length text → Stop text (64 * j) (get_or stops j 0)

  pub stops_more : (stops : List ℕ) (k s : ℕ) → k < length stops → Stop text (64 * k) s → StopsFrom stops (k + 1) → StopsFrom (set stops k s) k
  stops_more stops k s h t f j l b =
      ⊎_elim (λ e. rw (eqb-true j k e, get_or-set_same stops k s 0 h) t)
      (λ e. let n = eqb-false j k e in rw (get_or-set_other stops k j s 0 n) (f j (omega (arith, n)) b))
      (decide (eqb j k))

  -- a run that has come to a block ends by its stop, or does not pass
  stop_decides : (start i s end : ℕ) → start ≤ i → i < end → end ≤ length text → continue_between text start i ≡ true → Stop text i s → leb end s ≡ continue_between text start end
  stop_decides start i s end h k l a t =
      ⊎_elim
      (λ e. e ∙ sym (continue_join start i end a (up_to i end s (leb-true end s e) t.passed)))
      (λ e.
      let m = leb-false end s e in
      let n : s < length text = omega arith in
      e ∙ sym (continue_fails start end s (omega (arith, t.after)) m (t.last n)))
      (decide (leb end s))

  pub block_decides : (stops : List ℕ) → Stops text stops → (start i end : ℕ) → start ≤ i → i < end → end ≤ length text → i % 64 ≡ 0 → continue_between text start i ≡ true
      → leb end (get_or stops (i / 64) 0) ≡ continue_between text start end
  block_decides stops s start i end h k l z a =
      let e : 64 * (i / 64) ≡ i = omega arith in
      let b : 64 * (i / 64) < length text = omega arith in
      stop_decides start i (get_or stops (i / 64) 0) end h k l a (rw e at (s.block (i / 64) b))

module _ (text : List ℕ) (start end : ℕ) (h : start ≤ end) (k : end ≤ length text) where
  pub part_length : length (part text start end) ≡ end - start
  part_length = length-take-le (end - start) (drop start text) (omega (arith, length-drop start text))

  part_byte : (i : ℕ) → i < end - start → get_or (part text start end) i 0 ≡ get_or text (start + i) 0
  part_byte i l = get_or-take (end - start) (drop start text) i 0 l ∙ get_or-drop start text i 0

  first_byte : start < end → get_or (part text start end) 0 0 ≡ get_or text start 0
  first_byte l = let e : start + 0 ≡ start = omega arith in rw e at (part_byte 0 (omega arith))

  -- a search of the part for the first byte that continues no name passes those before it
  passed_part : (i : ℕ) → i ≤ end - start → AllWithin (λ b. continues_name b ≡ true) (part text start end) 0 i → continue_between text start (start + i) ≡ true
  unfolding continue_between
  passed_part i l a =
      every_intro (λ j. continues_name (get_or text j 0)) start (start + i) (λ j p q.
      let e : start + (j - start) ≡ j = omega arith in
      ap continues_name (rw e at (sym (part_byte (j - start) (omega arith)))) ∙ a (j - start) 0 zero-le (omega arith))

  -- it finds the stop
  pub stop_found : (i : ℕ) → (i < length (part text start end)) × HoldsAt (λ b. continues_name b ≡ false) (part text start end) i × AllWithin (λ b. continues_name b ≡ true) (part text start end) 0 i → Stop text start (start + i)
  stop_found i f =
      let l : i < end - start = omega (arith, f.0, part_length) in
      record { after = omega arith; inside = omega arith; passed = passed_part i (omega arith) f.2; last = λ _. ap continues_name (sym (part_byte i l)) ∙ f.1 0 }

  -- or there is none in the part
  pub stop_behind : (next : ℕ) → AllWithin (λ b. continues_name b ≡ true) (part text start end) 0 (length (part text start end)) → Stop text end next → Stop text start next
  stop_behind next a s =
      let e : start + (end - start) ≡ end = omega arith in
      stop_later text start end next h (rw e at (passed_part (end - start) (omega arith) (rw part_length at a))) s

  pub part_empty : start ≡ end → is_name (part text start end) ≡ false
  part_empty e = let z : end - start ≡ 0 = omega arith in name_empty (part text start end) (part_length ∙ z)

  pub part_start : start < end → starts_name (get_or text start 0) ≡ false → is_name (part text start end) ≡ false
  part_start l e = name_start_lem (part text start end) (ap starts_name (first_byte l) ∙ e)

  pub part_rest : start < end → starts_name (get_or text start 0) ≡ true → is_name (part text start end) ≡ continue_between text start end
  unfolding continue_between
  part_rest l e =
      let n : start + (end - start) ≡ end = omega arith in
      let m : length (part text start end) ≡ 0 → ⊥ = λ z. omega (arith, part_length) in
      name_rest (part text start end) m (ap starts_name (first_byte l) ∙ e)
      ∙ rw part_length (rw n at (every_shift (λ j. continues_name (get_or (part text start end) j 0)) (λ j. continues_name (get_or text j 0)) start (end - start) (λ i b. ap continues_name (part_byte i b))))
