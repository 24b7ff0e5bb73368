-- What a search finds. `fail_good` and `blocked` are the reason for the marks: a type that was walked to its end leads to marked
-- types only, and not to the target, so a chain from there to the target goes back through a type that is still on the stack.
--     no-cycle     a search of t that fails: no chain leads from t back to t
--     first-cycle  a search of t that finds fs: fs is the first cycle of t
use mathlib.Core.Path.{◌≡◌, refl, sym, subst}
use mathlib.Core.Logic.{◌⊎◌, inl, inr, ⊎_elim}
use mathlib.Core.List.Memᴰ
use mathlib.Core.List.{List, ◌∷◌, [], Memᴰ}
use Prim.Native.Nat.{ℕ, suc, ◌≤◌, ◌<◌}
use native.Mathlib.Omega.{arith}
use lib.ListN.{length, get_or, set}
use Rattle.links.specs.Chains.{Graph}
use Rattle.chains.specs.Cycles.{Distinct, Distinct.none, Distinct.more, LexLe, LexLe.nil, LexLe.less, LexLe.same, PathTo, PathTo.last, PathTo.step, FirstCycle, NoCycle}
use Rattle.chains.specs.Search.{Fail, Fail.done, Fail.skip, Fail.enter, Find, Find.here, Find.below, Find.past, Find.later}
use Rattle.chains.proofs.Marks.{HasMark, same_or_not, at_or_after, mark_same, mark_grows, mark_new, unmarked_old}

-- no type of ws is on the stack S
abbrev Avoids : List ℕ → List ℕ → Type 0
Avoids S ws = (w : ℕ) → Memᴰ w ws → Memᴰ w S → ⊥

abbrev tail : List ℕ → List ℕ
tail [] = []
tail (v ∷ vs) = vs

-- the first of the fields is f or a later one
abbrev Since : ℕ → List ℕ → Type 0
Since f [] = ⊥
Since f (g ∷ gs) = f ≤ g

module _ (g : Graph) (t : ℕ) where
  -- every chain field of v leads to a marked type that is not the target
  abbrev pub Closed : List ℕ → ℕ → Type 0
  Closed W v = (f : ℕ) → g.start v ≤ f → f < g.stop v → g.next f < g.types → (g.next f ≡ t → ⊥) × HasMark W (g.next f)

  -- every marked type is on the stack, or finished
  abbrev pub Good : List ℕ → List ℕ → Type 0
  Good S W = (v : ℕ) → v < g.types → HasMark W v → Memᴰ v S ⊎ Closed W v

  closed_grows : (W X : List ℕ) (v : ℕ) → ((u : ℕ) → HasMark W u → HasMark X u) → Closed W v → Closed X v
  closed_grows W X v grow k f a b c = ((k f a b c).0, grow (g.next f) (k f a b c).1)

  -- marks only grow
  pub fail_grows : {s f : ℕ} {W X : List ℕ} → Fail g t s f W X → (v : ℕ) → HasMark W v → HasMark X v
  fail_grows (done h) v m = m
  fail_grows (skip h k r) v m = fail_grows r v m
  fail_grows (enter {f} {W} h o q r) v m = fail_grows r v (fail_grows q v (mark_grows W (g.next f) o.room v m))

  pub fail_fresh : {s f : ℕ} {W X : List ℕ} → Fail g t s f W X → (v : ℕ) → get_or X v 0 ≡ 0 → get_or W v 0 ≡ 0
  fail_fresh {W} r v e = ⊎_elim (λ d. d) (λ n. absurd (fail_grows r v n e)) (same_or_not (get_or W v 0) 0)

  -- the fields that were walked lead to marked types
  fail_closed : {s f : ℕ} {W X : List ℕ} → Fail g t s f W X
      → (j : ℕ) → f ≤ j → j < g.stop s → g.next j < g.types → (g.next j ≡ t → ⊥) × HasMark X (g.next j)
  fail_closed (done h) j a b c = absurd (omega arith)
  fail_closed {X} (skip {f} {W} h k r) j a b c =
      ⊎_elim
      (λ (e : j ≡ f). let c' : g.next f < g.types = rw e at c in rw e ((k c').0, fail_grows r (g.next f) (k c').1))
      (λ l. fail_closed r j l b c)
      (at_or_after f j a)
  fail_closed {X} (enter {f} {W} h o q r) j a b c =
      ⊎_elim
      (λ (e : j ≡ f). rw e (o.other, fail_grows r (g.next f) (fail_grows q (g.next f) (mark_same W (g.next f) o.room))))
      (λ l. fail_closed r j l b c)
      (at_or_after f j a)

  -- a type that is marked after the walk of u failed was marked before u was entered, or is finished
  entered : (W X : List ℕ) (u : ℕ) → u < length W → Fail g t u (g.start u) (set W u 1) X
      → (v : ℕ) → HasMark (set W u 1) v ⊎ Closed X v → HasMark W v ⊎ Closed X v
  entered W X u room q v (inl m) = ⊎_elim (λ (e : v ≡ u). inr (rw e (fail_closed q))) (λ n. inl n) (mark_new W u room v m)
  entered W X u room q v (inr k) = inr k

  -- a type that was entered on the way is finished
  fail_new : {s f : ℕ} {W X : List ℕ} → Fail g t s f W X → (v : ℕ) → HasMark X v → HasMark W v ⊎ Closed X v
  fail_new (done h) v m = inl m
  fail_new (skip h k r) v m = fail_new r v m
  fail_new {X} (enter {f} {W} {Y} h o q r) v m = ⊎_elim (λ m'. before (entered W Y (g.next f) o.room q v (fail_new q v m'))) (λ k. inr k) (fail_new r v m)
    where
      before : HasMark W v ⊎ Closed Y v → HasMark W v ⊎ Closed X v
      before (inl n) = inl n
      before (inr k) = inr (closed_grows Y X v (fail_grows r) k)

  -- after the walk of u fails, every marked type is on the stack, or finished, as before u was entered
  fail_good : (S W X : List ℕ) (u : ℕ) → u < length W → Fail g t u (g.start u) (set W u 1) X → Good S W → Good S X
  fail_good S W X u room q good v low m = ⊎_elim (λ n. before (good v low n)) (λ k. inr k) (entered W X u room q v (fail_new q v m))
    where
      before : Memᴰ v S ⊎ Closed W v → Memᴰ v S ⊎ Closed X v
      before (inl i) = inl i
      before (inr k) = inr (closed_grows W X v (λ w i. fail_grows q w (mark_grows W u room w i)) k)

  -- from a marked type no chain leads to the target that goes round the stack
  blocked : (S W : List ℕ) → Good S W → {v : ℕ} {gs vs : List ℕ} → PathTo g t v gs vs → v < g.types → HasMark W v → Avoids S vs → ⊥
  blocked S W good (last {t = v} c) low m a =
      ⊎_elim (λ i. a v (Memᴰ.head refl) i) (λ k. (k _ c.low c.high (rw c.leads c.type)).0 c.leads) (good v low m)
  blocked S W good (step {t = v} {v = u} c p) low m a =
      ⊎_elim
      (λ i. a v (Memᴰ.head refl) i)
      (λ k. blocked S W good p c.type (rw c.leads at (k _ c.low c.high (rw c.leads c.type)).1) (λ w i. a w (Memᴰ.tail i)))
      (good v low m)

  -- a chain whose first field is f or later: it starts at a later field, or is f alone, or goes on from where f leads
  data Starts (s f : ℕ) : List ℕ → List ℕ → Type 0 where
    later_on : {gs vs : List ℕ} → Since (suc f) gs → Starts s f gs vs
    at_last : g.next f < g.types → g.next f ≡ t → Starts s f (f ∷ []) (s ∷ [])
    goes_on : {gs ws : List ℕ} → g.next f < g.types → PathTo g t (g.next f) gs ws → Starts s f (f ∷ gs) (s ∷ ws)

  starts : (f : ℕ) {s : ℕ} {gs vs : List ℕ} → PathTo g t s gs vs → Since f gs → Starts s f gs vs
  starts f (last {t = s} {f = j} c) h =
      ⊎_elim
      (λ (e : j ≡ f).
      let k : g.next f ≡ t = rw e at c.leads in
      subst (λ x. Starts s f (x ∷ []) (s ∷ [])) (sym e) (at_last (rw k c.type) k))
      (λ l. later_on l)
      (at_or_after f j h)
  starts f (step {t = s} {f = j} {v = u} {fs = gs} {vs = ws} c p) h =
      ⊎_elim
      (λ (e : j ≡ f).
      let k : g.next f ≡ u = rw e at c.leads in
      subst (λ x. Starts s f (x ∷ gs) (s ∷ ws)) (sym e) (goes_on (rw k c.type) (rw k p)))
      (λ l. later_on l)
      (at_or_after f j h)

  -- a chain from s starts at a field of s, and, where it visits no type twice, does not come back to s on the way
  path_since : {s : ℕ} {gs vs : List ℕ} → PathTo g t s gs vs → Since (g.start s) gs
  path_since (last c) = c.low
  path_since (step c p) = c.low

  path_avoids : {s : ℕ} {gs vs : List ℕ} → PathTo g t s gs vs → Distinct vs → Avoids (s ∷ []) (tail vs)
  path_avoids (last c) d w i j = Memᴰ.not-nil i
  path_avoids (step {t = s} {vs = ws} c p) (more n d) w i j = n (subst (λ x. Memᴰ x ws) (Memᴰ.eq_of_singleton j) i)

  -- what a search finds is a chain to the target through types that were not entered, each once
  record Sound (s : ℕ) (W fs : List ℕ) : Type 0 where
    pub rest : List ℕ
    pub path : PathTo g t s fs (s ∷ rest)
    pub distinct : Distinct rest
    pub fresh : (v : ℕ) → Memᴰ v rest → get_or W v 0 ≡ 0

  sound : {s f : ℕ} {W fs : List ℕ} → Find g t s f W fs → g.start s ≤ f → Sound s W fs
  sound (here h l e) low =
      record {
        rest = [];
        path = last (record { low = low; high = h; leads = e; type = rw e at l });
        distinct = none;
        fresh = λ v i. absurd (Memᴰ.not-nil i);
      }
  sound (below {s} {f} {W} h o r) low =
      let w = sound r (omega arith) in
      record {
        rest = g.next f ∷ w.rest;
        path = step (record { low = low; high = h; leads = refl; type = o.type }) w.path;
        distinct = more (λ i. mark_same W (g.next f) o.room (w.fresh (g.next f) i)) w.distinct;
        fresh = λ v i. ⊎_elim (λ (e : v ≡ g.next f). rw e o.fresh) (λ j. unmarked_old W (g.next f) o.room v (w.fresh v j)) (Memᴰ.cases_cons i);
      }
  sound (past h k r) low = sound r (omega arith)
  sound (later {s} {f} {W} {Y} h o q r) low =
      let w = sound r (omega arith) in
      record {
        rest = w.rest;
        path = w.path;
        distinct = w.distinct;
        fresh = λ v i. unmarked_old W (g.next f) o.room v (fail_fresh q v (w.fresh v i));
      }

  -- a list that starts before another is before it
  before_later : {f : ℕ} {fs : List ℕ} (gs : List ℕ) → Since (suc f) gs → LexLe (f ∷ fs) gs
  before_later [] h = absurd h
  before_later (j ∷ gs) h = less h

  in_tail : {w : ℕ} (ws : List ℕ) → Memᴰ w (tail ws) → Memᴰ w ws
  in_tail [] i = i
  in_tail (v ∷ ws) i = Memᴰ.tail i

  -- where f leads to a marked type, a chain round the stack starts later than f
  beyond : (S X : List ℕ) → Good S X → {s f : ℕ} {gs vs : List ℕ} → (g.next f < g.types → (g.next f ≡ t → ⊥) × HasMark X (g.next f))
      → Starts s f gs vs → Avoids S (tail vs) → Since (suc f) gs
  beyond S X good k (later_on h) av = h
  beyond S X good k (at_last l e) av = absurd ((k l).0 e)
  beyond S X good k (goes_on l p) av = absurd (blocked S X good p l (k l).1 av)

  -- a type that is entered goes on the stack
  mark_good : (S W : List ℕ) (u : ℕ) → u < length W → Good S W → Good (u ∷ S) (set W u 1)
  mark_good S W u room good v low m =
      ⊎_elim
      (λ e. inl (Memᴰ.head e))
      (λ n. ⊎_elim (λ i. inl (Memᴰ.tail i)) (λ k. inr (closed_grows W (set W u 1) v (mark_grows W u room) k)) (good v low n))
      (mark_new W u room v m)

  -- fs is before the fields of every chain that starts at f or later, goes round the stack S and visits no type twice
  Least : ℕ → ℕ → List ℕ → List ℕ → Type 0
  Least s f S fs = (gs vs : List ℕ) → PathTo g t s gs vs → Since f gs → Avoids S (tail vs) → Distinct vs → LexLe fs gs

  least_here : {s f : ℕ} {gs vs : List ℕ} → Starts s f gs vs → LexLe (f ∷ []) gs
  least_here {gs} (later_on h) = before_later gs h
  least_here (at_last l e) = same nil
  least_here (goes_on l p) = same nil

  least_below : (S : List ℕ) {fs : List ℕ} {s f : ℕ} {gs vs : List ℕ} → (g.next f ≡ t → ⊥)
      → Least (g.next f) (g.start (g.next f)) (g.next f ∷ S) fs
      → Starts s f gs vs → Avoids S (tail vs) → Distinct vs → LexLe (f ∷ fs) gs
  unfolding Least
  least_below S {gs} k le (later_on h) av d = before_later gs h
  least_below S k le (at_last l e) av d = absurd (k e)
  least_below S k le (goes_on {gs} {ws} l p) av (more n d) =
      same
      (le gs ws p (path_since p)
      (λ w i j. ⊎_elim (λ e. path_avoids p d w i (Memᴰ.head e)) (λ j'. av w (in_tail ws i) j') (Memᴰ.cases_cons j))
      d)

  -- a search finds the least chain: one that starts at an earlier field was tried before, at the same stack, and failed
  least : {s f : ℕ} {W fs : List ℕ} → Find g t s f W fs → (S : List ℕ) → Good S W → Least s f S fs
  unfolding Least
  least (here {f} h l e) S good gs vs p h' av d = least_here (starts f p h')
  least (below {f} {W} h o r) S good gs vs p h' av d =
      least_below S o.other (least r (g.next f ∷ S) (mark_good S W (g.next f) o.room good)) (starts f p h') av d
  least (past {f} {W} h k r) S good gs vs p h' av d =
      least r S good gs vs p (beyond S W good k (starts f p h') av) av d
  least (later {f} {W} {Y} h o q r) S good gs vs p h' av d =
      let good' : Good S Y = fail_good S W Y (g.next f) o.room q good in
      least r S good' gs vs p
      (beyond S Y good' (λ l. (o.other, fail_grows q (g.next f) (mark_same W (g.next f) o.room))) (starts f p h') av) av d

  -- so it is where none is marked
  pub blank_good : (Z : List ℕ) → ((v : ℕ) → v < g.types → get_or Z v 0 ≡ 0) → Good [] Z
  blank_good Z zeros v l m = absurd (m (zeros v l))

  -- the search of t begins where every marked type leads to marked types only, and not to t
  module _ (Z : List ℕ) (good : Good [] Z) (low : t < g.types) (room : t < length Z) where
    pub no_cycle : {X : List ℕ} → Fail g t t (g.start t) (set Z t 1) X → NoCycle g t
    no_cycle {X} q fs vs p =
        blocked [] X (fail_good [] Z X t room q good) p low (fail_grows q t (mark_same Z t room)) (λ w i j. Memᴰ.not-nil j)

    pub first_cycle : {fs : List ℕ} → Find g t t (g.start t) (set Z t 1) fs → FirstCycle g t fs
    unfolding Least
    first_cycle r =
        let w = sound r (omega arith) in
        record {
          cycle = record {
            types = t ∷ w.rest;
            path = w.path;
            simple = more (λ i. mark_same Z t room (w.fresh t i)) w.distinct;
          };
          least = λ gs c.
              least r (t ∷ []) (mark_good [] Z t room good) gs c.types c.path
              (path_since c.path) (path_avoids c.path c.simple) c.simple;
        }
