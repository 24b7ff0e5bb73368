-- Evidence that passes has the right marks: a type is marked exactly if it is on a closed chain.
-- A marked type reaches its leader, by induction on the distance, and its leader reaches it, by induction on the depth. A closed
-- chain through an unmarked type would lead to a number strictly below its own.
use mathlib.Core.Path.{◌≡◌, refl, sym, subst, ◌∙◌}
use mathlib.Core.Logic.{◌⊎◌, inl, inr, ⊎_elim, ◌≢◌, ◌↔◌}
use mathlib.Core.List.{List, ◌∷◌, [], ◌++◌}
use mathlib.Core.Bool.{Bool}
use Prim.Native.Nat.{ℕ, suc, zero, ◌≤◌, ◌<◌}
use native.Mathlib.Omega.{arith}
use Rattle.links.specs.Chains.{Graph, Chain}
use Rattle.chains.specs.Cycles.{PathTo, PathTo.last, PathTo.step}
use Rattle.table.specs.Layout.{none}
use Rattle.evidence.specs.Words.{number, leader, out_field, out_distance, in_field, in_depth}
use Rattle.evidence.specs.Rules.{Passes}
use Rattle.evidence.specs.Reaches.{OnClosedChain, Reaches}
use Rattle.evidence.proofs.Kept.{Marked, Out, In, Kept, kept}

module _ (g : Graph) where
  -- one chain after another
  path_join : {u t v : ℕ} {fs vs gs ws : List ℕ} → PathTo g u t fs vs → PathTo g v u gs ws → PathTo g v t (fs ++ gs) (vs ++ ws)
  path_join (last c) q = step c q
  path_join (step c p) q = step c (path_join p q)

  -- where a chain ends is a type
  path_end : {u t : ℕ} {fs vs : List ℕ} → PathTo g u t fs vs → u < g.types
  path_end (last c) = c.type
  path_end (step c p) = path_end p

  -- reaching: by one field, by one field more, by two chains
  pub reach_one : {t f u : ℕ} → Chain g t f u → Reaches g t u
  reach_one {t} {f} c = (f ∷ [], t ∷ [], last c)

  pub reach_more : {t f u v : ℕ} → Chain g t f u → Reaches g u v → Reaches g t v
  reach_more {t} {f} c r = (f ∷ r.0, t ∷ r.1, step c r.2)

  pub reach_join : {t u v : ℕ} → Reaches g t u → Reaches g u v → Reaches g t v
  reach_join r q = (r.0 ++ q.0, r.1 ++ q.1, path_join r.2 q.2)

  -- what is reached is a type
  pub reach_end : {t u : ℕ} → Reaches g t u → u < g.types
  reach_end r = path_end r.2

  -- t is u, or reaches it
  abbrev Near : ℕ → ℕ → Type 0
  Near t u = (t ≡ u) ⊎ Reaches g t u

  -- one field, and then the rest; or the rest, and then one field
  near_from : {t f u v : ℕ} → Chain g t f u → Near u v → Reaches g t v
  near_from {t} {f} c (inl e) = reach_one (subst (Chain g t f) e c)
  near_from c (inr r) = reach_more c r

  near_to : {t f u v : ℕ} → Near t u → Chain g u f v → Reaches g t v
  near_to {f} {v} (inl e) c = reach_one (subst (λ (s : ℕ). Chain g s f v) (sym e) c)
  near_to (inr r) c = reach_join r (reach_one c)

  module _ (input : ℕ → Bool) (ev : List ℕ) (passes : Passes g input ev) where
    row : (t : ℕ) → t < g.types → Kept g ev t (input t)
    row t l = kept g input ev t (passes t l)

    -- a marked type reaches its leader, or is it
    to_leader : (n t : ℕ) → t < g.types → Marked ev t → out_distance ev t ≡ n → Near t (leader ev t)
    to_leader zero t l m d = inl (sym (((row t l).distance m).0 d))
    to_leader (suc n) t l m d =
        let not_itself : leader ev t ≢ t = λ e. let z : out_distance ev t ≡ 0 = ((row t l).distance m).1 e in omega arith in
        let o : Out g ev t (out_field ev t) = (row t l).out m in
        let u : ℕ = g.next (out_field ev t) in
        let one_less : out_distance ev u ≡ n = let e = o.closer not_itself in omega arith in
        inr (near_from o.field (rw o.same at (to_leader n u o.field.type (λ e. m (sym o.same ∙ e)) one_less)))

    -- its leader reaches it, or is it
    from_leader : (n t : ℕ) → t < g.types → Marked ev t → in_depth ev t ≡ n → Near (leader ev t) t
    from_leader zero t l m d = inl (((row t l).depth m).0 d)
    from_leader (suc n) t l m d =
        let not_itself : leader ev t ≢ t = λ e. let z : in_depth ev t ≡ 0 = ((row t l).depth m).1 e in omega arith in
        let i : In g ev t (in_field ev t) = (row t l).in_some m not_itself in
        let one_less : in_depth ev i.owner ≡ n = let e = i.closer in omega arith in
        inr (near_to (rw i.same at (from_leader n i.owner i.row (λ e. m (sym i.same ∙ e)) one_less)) i.field)

    -- a marked type is on a closed chain: out by its out field, on to the leader, and back from there
    pub marked_closed : (t : ℕ) → t < g.types → Marked ev t → OnClosedChain g t
    marked_closed t l m =
        let o : Out g ev t (out_field ev t) = (row t l).out m in
        let u : ℕ = g.next (out_field ev t) in
        let there : Reaches g t (leader ev t) =
        near_from o.field (rw o.same at (to_leader (out_distance ev u) u o.field.type (λ e. m (sym o.same ∙ e)) refl)) in
        ⊎_elim
        (λ (e : leader ev t ≡ t). subst (Reaches g t) e there)
        (λ r. reach_join there r)
        (from_leader (in_depth ev t) t l m refl)

    -- numbers never rise along a chain
    number_falls : {u t : ℕ} {fs vs : List ℕ} → PathTo g u t fs vs → t < g.types → number ev u ≤ number ev t
    number_falls {u} (last {t} {f} c) l = ((row t l).lower f u c).most
    number_falls (step {t} {f} {v} c p) l = let h = ((row t l).lower f v c).most in let k = number_falls p c.type in omega arith

    -- and fall strictly behind an unmarked type
    unmarked_falls : {u t : ℕ} {fs vs : List ℕ} → PathTo g u t fs vs → t < g.types → leader ev t ≡ none → number ev u < number ev t
    unmarked_falls {u} (last {t} {f} c) l n = ((row t l).lower f u c).strict n
    unmarked_falls (step {t} {f} {v} c p) l n = let h = ((row t l).lower f v c).strict n in let k = number_falls p c.type in omega arith

    -- a type on a closed chain is marked
    pub closed_marked : (t : ℕ) → OnClosedChain g t → Marked ev t
    closed_marked t r n = let h = unmarked_falls r.2 (path_end r.2) n in omega arith

    -- the theorem
    pub marks_right : (t : ℕ) → t < g.types → Marked ev t ↔ OnClosedChain g t
    marks_right t l = (marked_closed t l, closed_marked t)
