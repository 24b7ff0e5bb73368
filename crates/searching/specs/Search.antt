-- The search for the types that chain fields reach from a type, step by step: what the functions that search promise each other.
--
-- W is the work words, whose parts are those of crates/chains: where other searches have the mark of a type this one has its level, the
-- number of fields on the way to it, or 0; and where they have counts it lists the marked types.
use Rattle.std.specs.Prelude.{◌≡◌, ◌⊎◌, ◌≢◌, ◌↔◌, List, ℕ, ◌+◌, ◌≤◌, ◌<◌, length, get_or, drop}
use Rattle.table.specs.declared.layout.Layout.{Layout}
use Rattle.table.specs.Layout.{type_count, field_count}
use Rattle.chains.specs.Work.{counts_at, trail_at, mark_of}
use Rattle.rows.specs.Readable.{SoundRows}
use Rattle.links.specs.Links.{Linked}
use Rattle.links.specs.Chains.{Graph, Chain}
use Rattle.evidence.specs.Reaches.{Reaches}
use Rattle.evidence.specs.Canonical.{Count, Least, Way}

-- the level of type u, or 0
abbrev pub level_of : List ℕ → ℕ → ℕ
level_of W u = mark_of W u

-- type u is marked
abbrev pub MarkedIn : List ℕ → ℕ → Type 0
MarkedIn W u = level_of W u ≢ 0

-- type i of the list of marked types
abbrev pub listed_type : (types : ℕ) → List ℕ → ℕ → ℕ
listed_type types W i = get_or W (counts_at types + i) 0

-- n types are marked, and those are listed
pub record MarksListed (types : ℕ) (W : List ℕ) (n : ℕ) : Type 0 where
  pub room : trail_at types ≤ length W
  pub count : Count (MarkedIn W) types n
  pub listed : (u : ℕ) → u < types → MarkedIn W u → (i : ℕ) × (i < n) × (listed_type types W i ≡ u)
  pub types_only : (i : ℕ) → i < n → listed_type types W i < types
  pub marked : (i : ℕ) → i < n → MarkedIn W (listed_type types W i)

-- a table whose chains can be followed, with its layout, whose counts are the table's
pub record Helping (w : List ℕ) (l : Layout) (T : List ℕ) : Type 0 where
  pub rows : SoundRows w l
  pub linked : Linked w T
  pub types : l.types ≡ type_count w
  pub fields : l.fields ≡ field_count w

-- a type may be followed to, and marked at level k, behind the n that are listed
pub record Entering (w : List ℕ) (l : Layout) (T : List ℕ) (k : ℕ) (W : List ℕ) (n : ℕ) : Type 0 where
  pub listed : MarksListed (type_count w) W n
  pub some : 0 < k
  pub help : Helping w l T

-- more types may be marked and listed behind those that were, and all else is as it was
pub record Grown (types : ℕ) (W : List ℕ) (n : ℕ) (X : List ℕ) (m : ℕ) : Type 0 where
  pub listed : MarksListed types X m
  pub more : n ≤ m
  pub same : (i : ℕ) → i < n → listed_type types X i ≡ listed_type types W i
  pub kept : (u : ℕ) → u < types → MarkedIn W u → level_of X u ≡ level_of W u
  pub size : length X ≡ length W
  pub rest : drop (trail_at types) X ≡ drop (trail_at types) W

module _ (g : Graph) where
  -- where field f leads to a type, that one is marked, at level k if it was not, and no other that was not
  pub record Entered (f k : ℕ) (W : List ℕ) (n : ℕ) (X : List ℕ) (m : ℕ) : Type 0 where
    pub grown : Grown g.types W n X m
    pub led : g.next f < g.types → MarkedIn X (g.next f)
    pub only : (u : ℕ) → u < g.types → MarkedIn X u → MarkedIn W u ⊎ ((g.next f ≡ u) × (level_of X u ≡ k))
    pub new : (i : ℕ) → n ≤ i → i < m → level_of X (listed_type g.types X i) ≡ k

  -- the types that the chain fields of s below f lead to are marked, at level k if they were not, and no others that were not
  pub record Visited (s f k : ℕ) (W : List ℕ) (n : ℕ) (X : List ℕ) (m : ℕ) : Type 0 where
    pub grown : Grown g.types W n X m
    pub led : (h u : ℕ) → h < f → Chain g s h u → MarkedIn X u
    pub only : (u : ℕ) → u < g.types → MarkedIn X u → MarkedIn W u ⊎ ((h : ℕ) × Chain g s h u × (level_of X u ≡ k))
    pub new : (i : ℕ) → n ≤ i → i < m → level_of X (listed_type g.types X i) ≡ k

  -- the types that chain fields reach from t are marked, n of them, and no others; the level of another type is its shortest distance
  -- from t; what stands behind them is as it was
  pub record Searched (t : ℕ) (W X : List ℕ) (n : ℕ) : Type 0 where
    pub marks : (u : ℕ) → u < g.types → MarkedIn X u ↔ Reaches g t u
    pub count : Count (Reaches g t) g.types n
    pub level : (u : ℕ) → u < g.types → MarkedIn X u → u ≢ t → Least (λ k. Way g u k t) (level_of X u)
    pub size : length X ≡ length W
    pub rest : drop (trail_at g.types) X ≡ drop (trail_at g.types) W

-- the first n words are 0
pub record Clear (n : ℕ) (W : List ℕ) : Type 0 where
  pub room : n ≤ length W
  pub zero : (i : ℕ) → i < n → get_or W i 0 ≡ 0

-- a search from t may begin
pub record MaySearch (w : List ℕ) (l : Layout) (T : List ℕ) (t : ℕ) (W : List ℕ) : Type 0 where
  pub low : t < l.types
  pub clear : Clear (trail_at (type_count w)) W
  pub help : Helping w l T

-- the first n words were set to 0, and the rest is as it was
pub record Cleared (n : ℕ) (W X : List ℕ) : Type 0 where
  pub clear : Clear n X
  pub size : length X ≡ length W
  pub rest : drop n X ≡ drop n W
