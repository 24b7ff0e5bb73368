-- Laws of chains of a given length, and of types that reach each other.
use mathlib.Core.Path.{◌≡◌, refl}
use mathlib.Core.List.{List}
use Prim.Native.Nat.{ℕ, suc}
use Rattle.links.specs.Chains.{Graph, Chain}
use Rattle.chains.specs.Cycles.{PathTo, PathTo.last, PathTo.step}
use Rattle.evidence.specs.Reaches.{Reaches}
use Rattle.evidence.specs.Canonical.{Least, Way, Way.here, Way.more, Mutual}
use Rattle.evidence.proofs.Counts.{least_unique}
use Rattle.evidence.proofs.Marks.{reach_one, reach_more, reach_join}

module _ (g : Graph) where
  -- no field: the two types are one
  pub way_zero : {t u : ℕ} → Way g u 0 t → t ≡ u
  way_zero here = refl

  -- one field or more: reaching
  pub way_reaches : {u t n : ℕ} → Way g u (suc n) t → Reaches g t u
  way_reaches (more c here) = reach_one g c
  way_reaches (more c (more d w)) = reach_more g c (way_reaches (more d w))

  -- and the other way
  path_way : {u t : ℕ} {fs vs : List ℕ} → PathTo g u t fs vs → (n : ℕ) × Way g u (suc n) t
  path_way (last c) = (0, more c here)
  path_way (step c p) = let (n, w) = path_way p in (suc n, more c w)

  pub reaches_way : {t u : ℕ} → Reaches g t u → (n : ℕ) × Way g u (suc n) t
  reaches_way r = path_way r.2

  -- the last field of a chain
  pub way_last : {u t n : ℕ} → Way g u (suc n) t → (s : ℕ) × (f : ℕ) × Way g s n t × Chain g s f u
  way_last (more {t} {f} c here) = (t, f, here, c)
  way_last (more c (more d w)) = let (s, f, v, e) = way_last (more d w) in (s, f, more c v, e)

  -- one field more at the end
  pub way_snoc : {s t f u n : ℕ} → Way g s n t → Chain g s f u → Way g u (suc n) t
  way_snoc here c = more c here
  way_snoc (more d w) c = more d (way_snoc w c)

  -- reaching each other is symmetric and goes on
  pub mutual_sym : {t u : ℕ} → Mutual g t u → Mutual g u t
  mutual_sym m = (m.1, m.0)

  pub mutual_join : {t u v : ℕ} → Mutual g t u → Mutual g u v → Mutual g t v
  mutual_join m k = (reach_join g m.0 k.0, reach_join g k.1 m.1)

  -- types that reach each other have the same lowest row
  pub same_lowest : {t u n m : ℕ} → Mutual g t u → Least (Mutual g t) n → Least (Mutual g u) m → n ≡ m
  same_lowest k a b = least_unique a b (λ i p. mutual_join (mutual_sym k) p) (λ i p. mutual_join k p)
