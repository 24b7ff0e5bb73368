-- Types that are settled one after the other: the marks stay right.
use mathlib.Core.Path.{◌≡◌, refl, sym, ap, ◌∙◌}
use mathlib.Core.Logic.{◌≢◌, ⊎_elim}
use mathlib.Core.List.{List, ◌∷◌, [], ◌++◌}
use Prim.Native.Nat.{ℕ, zero, suc, ◌+◌, ◌*◌, ◌≤◌, ◌<◌}
use native.Mathlib.Omega.{arith}
use lib.ListN.{length, get_or, set, drop, replicate, length-set, length-append, length-replicate, get_or-replicate, get_or-append}
use lib.Seq.{get_or-set_same, get_or-set_other, drop-set-lt}
use Rattle.names.proofs.BoolLaws.{below_or_from}
use Rattle.links.specs.Chains.{Graph, Chain}
use Rattle.chains.specs.Cycles.{PathTo, PathTo.last, PathTo.step, NoCycle}
use Rattle.chains.specs.Work.{work_words, trail_at}
use Rattle.chains.specs.Answer.{Marking, Settled, unentered, Forgotten}
use Rattle.chains.specs.Settle.{Walking, Settling, LedTo, AllSettled}
use Rattle.chains.proofs.Marks.{same_or_not}
use Rattle.chains.proofs.RestLaws.{rest_behind}

-- a chain to s and a chain field of s make a chain to where that field leads
join_last : {g : Graph} {s v f : ℕ} → Chain g s f v → {t : ℕ} {fs vs : List ℕ} → PathTo g s t fs vs → PathTo g v t (fs ++ f ∷ []) (vs ++ s ∷ [])
join_last c (last d) = step d (last c)
join_last c (step d p) = step d (join_last c p)

-- a word behind the marks is none
marking_behind : {g : Graph} {W : List ℕ} → Marking g W → (i m : ℕ) → g.types ≤ i → Marking g (set W i m)
marking_behind {g} {W} s i m h =
    let same : (v : ℕ) → v < g.types → get_or (set W i m) v 0 ≡ get_or W v 0 = λ v l. get_or-set_other W i v m 0 (omega arith) in
    record {
      room = rw length-set s.room;
      most = λ v l. rw (same v l) (s.most v l);
      closed = λ v f u l e c. same u c.type ∙ s.closed v f u l (sym (same v l) ∙ e) c;
      none = λ v l e. s.none v l (sym (same v l) ∙ e);
    }

module _ (g : Graph) where
  pub settling_join : {W X Y : List ℕ} → Settling g W X → Settling g X Y → Settling g W Y
  settling_join a b = record { marking = b.marking; size = b.size ∙ a.size; rest = b.rest ∙ a.rest }

  -- and the walk goes on
  pub walking_on : {W X : List ℕ} → Walking g W → Settling g W X → Walking g X
  walking_on w s = record { marking = s.marking; trail = omega (arith, w.trail, s.size) }

  -- a word behind the marks is none of them
  pub settling_behind : {W : List ℕ} → Walking g W → (i m : ℕ) → g.types ≤ i → i < work_words * g.types → Settling g W (set W i m)
  settling_behind {W} w i m low high = record { marking = marking_behind w.marking i m low; size = length-set W i m; rest = drop-set-lt (work_words * g.types) W i m high }

  -- the next field of a type is noted
  pub settling_noted : {W : List ℕ} → Walking g W → (s m n : ℕ) → s < g.types → n ≡ g.types → Settling g W (set W (n + s) m)
  settling_noted w s m n low next = settling_behind w (n + s) m (omega arith) (omega arith)

  module _ {W : List ℕ} (w : Walking g W) (u : ℕ) (low : u < g.types) where
    m : Marking g W
    m = w.marking

    room : u < length W
    room = omega (arith, w.trail)

    behind : (k : ℕ) → drop (work_words * g.types) (set W u k) ≡ drop (work_words * g.types) W
    behind k = drop-set-lt (work_words * g.types) W u k (omega arith)

    -- a word other than u's is as it was, and u's is the new mark
    at : (k : ℕ) (P : ℕ → Type 0) (v : ℕ) → (v ≡ u → P k) → (v ≢ u → P (get_or W v 0)) → P (get_or (set W u k) v 0)
    at k P v a b = ⊎_elim (λ (e : v ≡ u). rw (e, get_or-set_same W u k 0 room) (a e)) (λ n. rw (get_or-set_other W u v k 0 n) (b n)) (same_or_not v u)

    -- a type that is not entered is entered
    module _ (fresh : get_or W u 0 ≡ 0) where
      entered_two : (v : ℕ) → get_or (set W u 1) v 0 ≡ 2 → get_or W v 0 ≡ 2
      entered_two v = at 1 (λ x. x ≡ 2 → get_or W v 0 ≡ 2) v (λ _ e. absurd (omega arith)) (λ _ e. e)

      two_entered : (v : ℕ) → get_or W v 0 ≡ 2 → get_or (set W u 1) v 0 ≡ 2
      two_entered v e = at 1 (λ x. x ≡ 2) v (λ (d : v ≡ u). let z : get_or W u 0 ≡ 2 = rw d at e in absurd (omega arith)) (λ _. e)

      pub settling_enter : Settling g W (set W u 1)
      settling_enter =
          record {
            marking = record {
              room = rw length-set m.room;
              most = λ v l. at 1 (λ x. x ≤ 2) v (λ _. omega arith) (λ _. m.most v l);
              closed = λ v f x l e c. two_entered x (m.closed v f x l (entered_two v e) c);
              none = λ v l e. m.none v l (entered_two v e);
            };
            size = length-set W u 1;
            rest = behind 1;
          }

    -- a type that leads to settled types only is settled
    module _ (leads : LedTo g W u (g.stop u)) where
      led : (f v : ℕ) → Chain g u f v → get_or W v 0 ≡ 2
      led f v c = leads f v c.high c

      no_way_back : NoCycle g u
      no_way_back fs vs (last c) = m.none u low (led _ u c) _ _ (last c)
      no_way_back fs vs (step c p) = m.none _ c.type (led _ _ c) _ _ (join_last c p)

      now_two : (v : ℕ) → get_or W v 0 ≡ 2 → get_or (set W u 2) v 0 ≡ 2
      now_two v e = at 2 (λ x. x ≡ 2) v (λ _. refl) (λ _. e)

      closed_two : (v f x : ℕ) → v < g.types → get_or (set W u 2) v 0 ≡ 2 → Chain g v f x → get_or W x 0 ≡ 2
      closed_two v f x l = at 2 (λ y. y ≡ 2 → Chain g v f x → get_or W x 0 ≡ 2) v (λ (d : v ≡ u) _ c. led f x (rw d at c)) (λ _ e c. m.closed v f x l e c)

      none_two : (v : ℕ) → v < g.types → get_or (set W u 2) v 0 ≡ 2 → NoCycle g v
      none_two v l = at 2 (λ y. y ≡ 2 → NoCycle g v) v (λ (d : v ≡ u) _. rw d no_way_back) (λ _ e. m.none v l e)

      pub settling_two : Settling g W (set W u 2)
      settling_two =
          record {
            marking = record {
              room = rw length-set m.room;
              most = λ v l. at 2 (λ x. x ≤ 2) v (λ _. omega arith) (λ _. m.most v l);
              closed = λ v f x l e c. now_two x (closed_two v f x l e c);
              none = none_two;
            };
            size = length-set W u 2;
            rest = behind 2;
          }

-- a type is entered: its mark, and two words behind the marks
module _ (g : Graph) {W : List ℕ} (w : Walking g W) (u : ℕ) (low : u < g.types) (fresh : get_or W u 0 ≡ 0) (k n b x y : ℕ) (types : k ≡ g.types) (next : n ≡ k) (back : b ≡ 2 * k) where
  one : Settling g W (set W u 1)
  one = settling_enter g w u low fresh

  two : Settling g W (set (set W u 1) (n + u) x)
  two = settling_join g one (settling_noted g (walking_on g w one) u x n low (next ∙ types))

  pub settling_entered : Settling g W (set (set (set W u 1) (n + u) x) (b + u) y)
  settling_entered = settling_join g two (settling_behind g (walking_on g w two) (b + u) y (omega arith) (omega arith))

-- the fields from a up to b lead to settled types or to none
abbrev pub Led : Graph → List ℕ → ℕ → ℕ → Type 0
Led g W a b = (h : ℕ) → a ≤ h → h < b → g.next h < g.types → get_or W (g.next h) 0 ≡ 2

pub led_more : (g : Graph) (W : List ℕ) (a f : ℕ) → (g.next f < g.types → get_or W (g.next f) 0 ≡ 2) → Led g W a f → Led g W a (f + 1)
led_more g W a f here below h l b =
    ⊎_elim (λ c. below h l c) (λ c. let e : h ≡ f = omega arith in rw e here) (below_or_from h f)

-- where no type is marked, none is settled
pub blank_settled : (g : Graph) (W : List ℕ) → trail_at g.types ≤ length W → ((v : ℕ) → v < g.types → get_or W v 0 ≡ 0) → Settled g W
blank_settled g W room zeros =
    record {
      marking = record {
        room = room;
        most = λ v l. omega (arith, zeros v l);
        closed = λ v f u l e c. absurd (omega (arith, zeros v l, e));
        none = λ v l e. absurd (omega (arith, zeros v l, e));
      };
      calm = λ v l e. omega (arith, zeros v l, e);
    }

-- as words are that were set to 0
pub cleared_zero : (n : ℕ) (rest : List ℕ) (v : ℕ) → v < n → get_or (replicate n 0 ++ rest) v 0 ≡ 0
cleared_zero n rest v h =
    let c : v < length {A = ℕ} (replicate n 0) = rw length-replicate h in
    get_or-append (replicate n 0) rest 0 v c ∙ get_or-replicate n v 0 0 h

pub cleared_settled : (g : Graph) (n : ℕ) (rest : List ℕ) → trail_at g.types ≤ n → Settled g (replicate n 0 ++ rest)
cleared_settled g n rest h =
    blank_settled g (replicate n 0 ++ rest) (simp (length-append, length-replicate) (omega arith)) (λ v l. cleared_zero n rest v (omega arith))

-- where words were cleared no type is marked
pub cleared_marks : (g : Graph) (k : ℕ) (W X : List ℕ) → X ≡ replicate k 0 ++ drop k W → trail_at g.types ≤ k → Settled g X
cleared_marks g k W X e h = rw e (cleared_settled g k (drop k W) h)

pub settled_behind : {g : Graph} {W : List ℕ} → Settled g W → (i m : ℕ) → g.types ≤ i → Settled g (set W i m)
settled_behind {g} {W} s i m h =
    record {
      marking = marking_behind s.marking i m h;
      calm = λ v l e. s.calm v l (sym (get_or-set_other W i v m 0 (omega arith)) ∙ e);
    }

-- once the marks of the walk are taken away, settled types are left
pub all_settled : {g : Graph} {W X Y : List ℕ} (k : ℕ) → k ≡ g.types → Settling g W X → Forgotten k X Y → AllSettled g W Y
all_settled {g} {W} {X} {Y} k types s gone =
    record {
      settled = record {
        marking = record {
          room = omega (arith, s.marking.room, gone.size);
          most = λ v l. rw (mark v l) (at_most (get_or X v 0) (s.marking.most v l));
          closed = λ v f u l e c. mark u c.type ∙ ap unentered (s.marking.closed v f u l (was_two v l e) c);
          none = λ v l e. s.marking.none v l (was_two v l e);
        };
        calm = λ v l e. never_one (get_or X v 0) (sym (mark v l) ∙ e);
      };
      size = gone.size ∙ s.size;
      rest = rest_behind k (work_words * g.types) X Y (omega arith) gone.rest ∙ s.rest;
    }
  where
    mark : (v : ℕ) → v < g.types → get_or Y v 0 ≡ unentered (get_or X v 0)
    mark v l = gone.marks v (omega arith)

    at_most : (a : ℕ) → a ≤ 2 → unentered a ≤ 2
    at_most zero h = omega arith
    at_most (suc zero) h = omega arith
    at_most (suc (suc a)) h = h

    two : (a : ℕ) → unentered a ≡ 2 → a ≡ 2
    two zero e = absurd (omega arith)
    two (suc zero) e = absurd (omega arith)
    two (suc (suc a)) e = e

    never_one : (a : ℕ) → unentered a ≡ 1 → ⊥
    never_one zero e = omega arith
    never_one (suc zero) e = omega arith
    never_one (suc (suc a)) e = omega arith

    was_two : (v : ℕ) → v < g.types → get_or Y v 0 ≡ 2 → get_or X v 0 ≡ 2
    was_two v l e = two (get_or X v 0) (sym (mark v l) ∙ e)
