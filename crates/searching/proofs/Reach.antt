-- Laws of the search: it begins with no marks, marks one type more, joins its steps, and at its end all types reached are marked.
--
use mathlib.Core.Path.{◌≡◌, refl, ap, sym, ◌∙◌}
use mathlib.Core.Logic.{inl, inr, ⊎_elim, ◌≢◌}
use mathlib.Core.List.{List, ◌++◌}
use Prim.Native.Nat.{ℕ, suc, zero, ◌+◌, ◌≤◌, ◌<◌}
use native.Mathlib.Omega.{arith}
use native.Mathlib.Numerals.{add-one}
use lib.ListN.{length, get_or, set, drop, replicate, length-set, length-append, length-replicate, length-drop, get_or-append, get_or-replicate}
use lib.Seq.{get_or-set_same, get_or-set_other, drop-set-lt, drop_at}
use Rattle.links.specs.Chains.{Graph}
use Rattle.evidence.specs.Canonical.{Count, Count.empty, Count.with, Count.without}
use Rattle.chains.specs.Work.{trail_at}
use Rattle.searching.specs.Search.{MarkedIn, MarksListed, Grown, Entered, Cleared}
use Rattle.evidence.proofs.TestLaws.{last_or_below}
use Rattle.evidence.proofs.Counts.{count_below}
use Rattle.chains.proofs.Marks.{same_or_not}

-- counts of properties that agree
pub count_as : {P Q : ℕ → Type 0} {k n : ℕ} → ((i : ℕ) → i < k → P i → Q i) → ((i : ℕ) → i < k → Q i → P i) → Count P k n → Count Q k n
count_as f b empty = empty
count_as f b (with {k} p c) = with (f k (omega arith) p) (count_as (λ i l. f i (omega arith)) (λ i l. b i (omega arith)) c)
count_as f b (without {k} p c) = without (λ q. p (b k (omega arith) q)) (count_as (λ i l. f i (omega arith)) (λ i l. b i (omega arith)) c)

-- one more, where j gets the property and the others keep theirs
pub count_more : {P Q : ℕ → Type 0} {k n : ℕ} (j : ℕ) → ((i : ℕ) → i < k → i ≢ j → P i → Q i) → ((i : ℕ) → i < k → i ≢ j → Q i → P i)
    → (P j → ⊥) → Q j → Count P k n → j < k → Count Q k (suc n)
count_more j f b x y empty l = absurd (omega arith)
count_more {P} {Q} j f b x y (with {k} p c) l =
    ⊎_elim
    (λ (e : j ≡ k). absurd (x (rw e p)))
    (λ l'. with (f k (omega arith) (omega arith) p) (count_more j (λ i a. f i (omega arith)) (λ i a. b i (omega arith)) x y c l'))
    (last_or_below l)
count_more {P} {Q} j f b x y (without {k} p c) l =
    ⊎_elim
    (λ (e : j ≡ k). with (rw e at y) (count_as (λ i a. f i (omega arith) (omega arith)) (λ i a. b i (omega arith) (omega arith)) c))
    (λ l'. without (λ q. p (b k (omega arith) (omega arith) q)) (count_more j (λ i a. f i (omega arith)) (λ i a. b i (omega arith)) x y c l'))
    (last_or_below l)

-- no marks
pub count_none : {P : ℕ → Type 0} (k : ℕ) → ((i : ℕ) → i < k → P i → ⊥) → Count P k 0
count_none zero h = empty
count_none (suc k) h = without (h k (omega arith)) (count_none k (λ i l. h i (omega arith)))

-- the search begins with an empty list
pub listed_none : (types : ℕ) (W : List ℕ) → trail_at types ≤ length W → ((u : ℕ) → u < types → get_or W u 0 ≡ 0) → MarksListed types W 0
listed_none types W room z =
    record {
      room = room;
      count = count_none types (λ i l m. m (z i l));
      listed = λ u l m. absurd (m (z u l));
      types_only = λ i l. absurd (omega arith);
      marked = λ i l. absurd (omega arith);
    }

-- nothing grows
pub grown_refl : {types n : ℕ} {W : List ℕ} → MarksListed types W n → Grown types W n W n
grown_refl h = record { listed = h; more = omega arith; same = λ i l. refl; kept = λ u l m. refl; size = refl; rest = refl }

-- a mark stays
pub grown_marks : {types n m : ℕ} {W X : List ℕ} → Grown types W n X m → (u : ℕ) → u < types → MarkedIn W u → MarkedIn X u
grown_marks a u l m e = m (sym (a.kept u l m) ∙ e)

-- type u is marked and listed
unfoldable pub put : (types n u k : ℕ) → List ℕ → List ℕ
put types n u k W = set (set W u k) (types + n) u

module _ (types n u k : ℕ) (W : List ℕ) (h : MarksListed types W n) (low : u < types) (fresh : get_or W u 0 ≡ 0) (some : 0 < k) where
  -- there is room in the list
  pub room_left : n < types
  room_left = count_below h.count u low (λ m. m fresh)

  -- the words after a type is put
  at_mark : (v : ℕ) → v < types → v ≢ u → get_or (put types n u k W) v 0 ≡ get_or W v 0
  unfolding put
  at_mark v l d = get_or-set_other (set W u k) (types + n) v u 0 (omega arith) ∙ get_or-set_other W u v k 0 d

  at_new : get_or (put types n u k W) u 0 ≡ k
  unfolding put
  at_new = get_or-set_other (set W u k) (types + n) u u 0 (omega arith) ∙ get_or-set_same W u k 0 (let r = h.room in omega arith)

  at_list : (i : ℕ) → i < n → get_or (put types n u k W) (types + i) 0 ≡ get_or W (types + i) 0
  unfolding put
  at_list i l = get_or-set_other (set W u k) (types + n) (types + i) u 0 (omega arith) ∙ get_or-set_other W u (types + i) k 0 (omega arith)

  at_end : get_or (put types n u k W) (types + n) 0 ≡ u
  unfolding put
  at_end = get_or-set_same (set W u k) (types + n) u 0 (rw length-set (let r = h.room in let b = room_left in omega arith))

  -- and all else
  size_same : length (put types n u k W) ≡ length W
  unfolding put
  size_same = length-set (set W u k) (types + n) u ∙ length-set W u k

  rest_same : drop (trail_at types) (put types n u k W) ≡ drop (trail_at types) W
  unfolding put
  rest_same =
      let b = room_left in
      drop-set-lt (trail_at types) (set W u k) (types + n) u (omega arith) ∙ drop-set-lt (trail_at types) W u k (omega arith)

  -- the marks after a type is put
  new_marked : MarkedIn (put types n u k W) u
  new_marked e = let q = at_new in omega arith

  old_marked : (v : ℕ) → v < types → MarkedIn W v → MarkedIn (put types n u k W) v
  old_marked v l m = ⊎_elim (λ (e : v ≡ u). rw e new_marked) (λ d. λ e. m (sym (at_mark v l d) ∙ e)) (same_or_not v u)

  marked_old : (v : ℕ) → v < types → v ≢ u → MarkedIn (put types n u k W) v → MarkedIn W v
  marked_old v l d m e = m (at_mark v l d ∙ e)

  -- the list after a type is put
  new_listed : MarksListed types (put types n u k W) (suc n)
  new_listed =
      record {
        room = rw size_same h.room;
        count = count_more u (λ i l d. old_marked i l) marked_old (λ m. m fresh) new_marked h.count low;
        listed = λ v l m.
            ⊎_elim
            (λ (e : v ≡ u). (n, omega arith, at_end ∙ sym e))
            (λ d. let (i, b, e) = h.listed v l (marked_old v l d m) in (i, omega arith, at_list i b ∙ e))
            (same_or_not v u);
        types_only = λ i l. ⊎_elim (λ (e : i ≡ n). rw (e, at_end) low) (λ b. rw (at_list i b) (h.types_only i b)) (last_or_below l);
        marked = λ i l.
            ⊎_elim
            (λ (e : i ≡ n). rw (e, at_end) new_marked)
            (λ b. rw (at_list i b) (old_marked (get_or W (types + i) 0) (h.types_only i b) (h.marked i b)))
            (last_or_below l);
      }

  -- it has grown by one
  pub new_grown : Grown types W n (put types n u k W) (suc n)
  new_grown = record { listed = new_listed; more = omega arith; same = at_list; kept = λ v l m. at_mark v l (λ e. m (ap (λ (x : ℕ). get_or W x 0) e ∙ fresh)); size = size_same; rest = rest_same }

module _ (g : Graph) where
  -- field f leads to no type, or to a marked one
  pub entered_none : {f k n : ℕ} {W : List ℕ} → MarksListed g.types W n → (g.next f < g.types → MarkedIn W (g.next f)) → Entered g f k W n W n
  entered_none h m = record { grown = grown_refl h; led = m; only = λ u l b. inl b; new = λ i a b. absurd (omega arith) }

  -- or to one that is marked now, at level k
  entered_new : (f k n : ℕ) (W : List ℕ) (h : MarksListed g.types W n) (low : g.next f < g.types) (fresh : get_or W (g.next f) 0 ≡ 0) (some : 0 < k)
      → Entered g f k W n (set (set W (g.next f) k) (g.types + n) (g.next f)) (suc n)
  unfolding put
  entered_new f k n W h low fresh some =
      record {
        grown = new_grown g.types n (g.next f) k W h low fresh some;
        led = λ l. new_marked g.types n (g.next f) k W h low fresh some;
        only = λ u l m.
            ⊎_elim
            (λ (e : g.next f ≡ u). inr (e, rw (← e) (at_new g.types n (g.next f) k W h low fresh some)))
            (λ d. inl (marked_old g.types n (g.next f) k W h low fresh some u l (λ e. d (sym e)) m))
            (same_or_not (g.next f) u);
        new = λ i a b.
            let e : i ≡ n = omega arith in
            rw (e, at_end g.types n (g.next f) k W h low fresh some) (at_new g.types n (g.next f) k W h low fresh some);
      }

  -- as the code writes it
  pub entered_at : (f k u n : ℕ) (W : List ℕ) → u ≡ g.next f → MarksListed g.types W n → u < g.types → get_or W u 0 ≡ 0 → 0 < k
      → Entered g f k W n (set (set W u k) (g.types + n) u) (n + 1)
  entered_at f k u n W e h low fresh some = rw (add-one, e) (entered_new f k n W h (rw e at low) (rw e at fresh) some)

-- words that were set to 0 are cleared
pub zeros_cleared : (n : ℕ) (W : List ℕ) → n ≤ length W → Cleared n W (replicate n 0 ++ drop n W)
zeros_cleared n W h =
    let zeros : List ℕ = replicate n 0 in
    let z : length zeros ≡ n = length-replicate n 0 in
    let s : length (zeros ++ drop n W) ≡ length W = simp (length-append, length-replicate, length-drop) (omega arith) in
    record {
      clear = record {
        room = omega arith;
        zero = λ i l. let b : i < length zeros = omega arith in get_or-append zeros (drop n W) 0 i b ∙ get_or-replicate n i 0 0 l;
      };
      size = s;
      rest = drop_at zeros (drop n W) n z;
    }
