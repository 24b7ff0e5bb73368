-- What each word of the evidence that our producer writes means, and what a pass over a column of it does.
use Rattle.std.specs.Prelude.{◌≡◌, ◌≢◌, ◌↔◌, Bool, true, false, not, ◌&&◌, List, ◌∷◌, [], ℕ, ◌+◌, ◌*◌, ◌≤◌, ◌<◌, length, get_or, take, drop, eqb}
use Rattle.table.specs.declared.layout.Layout.{Layout}
use Rattle.table.specs.Layout.{none, type_count}
use Rattle.links.specs.Chains.{Graph}
use Rattle.chains.specs.Work.{trail_at}
use Rattle.evidence.specs.declared.row.EvidenceColumn.{EvidenceColumn}
use Rattle.evidence.specs.declared.row.EvidenceColumn.TheVariants.{Number, Leader, OutField, OutDistance, InField, InDepth}
use Rattle.evidence.specs.Words.{evidence_words, place_of, word_of, number, leader}
use Rattle.evidence.specs.Rules.{any, goes_out, comes_in}
use Rattle.evidence.specs.Reaches.{Reaches, OnClosedChain}
use Rattle.evidence.specs.Canonical.{Count, Least, Way, Other, Mutual, Canonical}
use Rattle.searching.specs.Search.{MarkedIn, level_of, Helping, Clear, Cleared}

-- v, for a type that is marked, and else NONE
pub data IfMarked (ev : List ℕ) (t : ℕ) (P : ℕ → Type 0) : ℕ → Type 0 where
  unmarked : leader ev t ≡ none → IfMarked ev t P none
  marked : {v : ℕ} → leader ev t ≢ none → P v → IfMarked ev t P v

module _ (g : Graph) where
  -- v is the number of t: how many other types it reaches
  abbrev pub NumberIs : ℕ → ℕ → Type 0
  NumberIs t v = Count (Other g t) g.types v

  -- v is the leader of t: the lowest row among those that reach each other, or NONE where t is on no closed chain
  pub data LeaderIs (t : ℕ) : ℕ → Type 0 where
    on : {v : ℕ} → OnClosedChain g t → Least (Mutual g t) v → LeaderIs t v
    off : (OnClosedChain g t → ⊥) → LeaderIs t none

  -- What the word of a column means in row t: number and leader; the shortest distance to the leader, and depth from it; the lowest field with
  -- which rule 5 holds; and that with which rule 6 does, or NONE of a leader.
  abbrev pub WordIs : EvidenceColumn → List ℕ → ℕ → ℕ → Type 0
  WordIs Number ev t = NumberIs t
  WordIs Leader ev t = LeaderIs t
  WordIs OutDistance ev t = IfMarked ev t (Least (λ n. Way g (leader ev t) n t))
  WordIs InDepth ev t = IfMarked ev t (Least (λ n. Way g t n (leader ev t)))
  WordIs OutField ev t = IfMarked ev t (Least (λ f. goes_out g ev t f ≡ true))
  WordIs InField ev t = IfMarked ev t (λ v. (leader ev t ≡ t → v ≡ none) × (leader ev t ≢ t → Least (λ f. any (comes_in g ev t f) g.types ≡ true) v))

  -- a column is right: its word is, in every row
  abbrev pub Right : EvidenceColumn → List ℕ → Type 0
  Right k ev = (t : ℕ) → t < g.types → WordIs k ev t (word_of ev t k)

  -- each of some columns is
  abbrev pub AllRight : List EvidenceColumn → List ℕ → Type 0
  AllRight [] ev = Unit {0}
  AllRight (k ∷ ks) ev = Right k ev × AllRight ks ev

-- leaders, distances and depths: what the fields that fit depend on
abbrev pub measures : List EvidenceColumn
measures = Leader ∷ OutDistance ∷ InDepth ∷ []

-- the columns that are right after the first pair of passes, and after the second
abbrev pub ranks : List EvidenceColumn
ranks = Number ∷ Leader ∷ []

abbrev pub levels : List EvidenceColumn
levels = Number ∷ measures

-- the columns from which the word of a column is found, which come before it
abbrev pub found_from : EvidenceColumn → List EvidenceColumn
found_from Number = []
found_from Leader = Number ∷ []
found_from OutDistance = Leader ∷ []
found_from InDepth = Leader ∷ []
found_from OutField = measures
found_from InField = measures

-- word c of the rows below n may have changed, and nothing else
pub record OnlyColumn (c n : ℕ) (before after : List ℕ) : Type 0 where
  pub others : (t d : ℕ) → d < evidence_words → d ≢ c → get_or after (evidence_words * t + d) 0 ≡ get_or before (evidence_words * t + d) 0
  pub size : length after ≡ length before
  pub rest : drop (evidence_words * n) after ≡ drop (evidence_words * n) before

-- the word of column k is written in the rows below i, found from a table where the columns that it needs are right
pub record Filled (g : Graph) (k : EvidenceColumn) (i : ℕ) (before after : List ℕ) : Type 0 where
  pub words : (t : ℕ) → t < i → WordIs g k before t (word_of after t k)
  pub column : OnlyColumn (place_of k) g.types before after

-- the types that t reaches are marked, and every number is right
pub record Looked (g : Graph) (t : ℕ) (W ev : List ℕ) : Type 0 where
  pub marks : (u : ℕ) → u < g.types → MarkedIn W u ↔ Reaches g t u
  pub numbers : Right g Number ev

-- u was reached, and has the same number as t
abbrev pub back : (W ev : List ℕ) (t u : ℕ) → Bool
back W ev t u = not (eqb (level_of W u) 0) && eqb (number ev u) (number ev t)

-- v is the lowest row with the test, where t has it, and else NONE
pub data FirstBack (p : ℕ → Bool) (t : ℕ) : ℕ → Type 0 where
  not_back : p t ≡ false → FirstBack p t none
  first : {u : ℕ} → u ≤ t → p t ≡ true → p u ≡ true → ((s : ℕ) → s < u → p s ≡ false) → FirstBack p t u

-- r is the shortest distance from s to u, where s reaches u and is not u
abbrev pub LevelIs : (g : Graph) (s u : ℕ) → ℕ → Type 0
LevelIs g s u r = Reaches g s u → u ≢ s → Least (λ k. Way g u k s) r

-- a word of every row may be written
pub record Filling (w : List ℕ) (l : Layout) (T W O : List ℕ) : Type 0 where
  pub clear : Clear (trail_at (type_count w)) W
  pub help : Helping w l T
  pub room : evidence_words * type_count w ≤ length O

-- r is the lowest field of s by which t is entered, or NONE where there is none
pub data InFrom (g : Graph) (ev : List ℕ) (t s : ℕ) : ℕ → Type 0 where
  nothing : ((f : ℕ) → comes_in g ev t f s ≡ true → ⊥) → InFrom g ev t s none
  lowest : {r : ℕ} → r ≢ none → Least (λ f. comes_in g ev t f s ≡ true) r → InFrom g ev t s r

-- the first six words a type are the evidence that our producer writes
abbrev pub Whole : Graph → List ℕ → Type 0
Whole g ev = Canonical g (take (evidence_words * g.types) ev)

-- some words of every row were written, of n rows, so that the table is right; the words behind the rows are as they were, and the work words
-- of the search are 0 again
pub record PassKept (n : ℕ) (Holds : List ℕ → Type 0) (O X W Y : List ℕ) : Type 0 where
  pub right : Holds X
  pub size : length X ≡ length O
  pub rest : drop (evidence_words * n) X ≡ drop (evidence_words * n) O
  pub cleared : Cleared (trail_at n) W Y

-- there is room for six words a type, in the work words and in the output
pub record Rooms (types : ℕ) (W O : List ℕ) : Type 0 where
  pub work_room : evidence_words * types ≤ length W
  pub out_room : evidence_words * types ≤ length O

-- the first six words a type are the evidence that our producer writes, and behind them stands what was there
pub record Made (g : Graph) (before after : List ℕ) : Type 0 where
  pub canonical : Whole g after
  pub size : length after ≡ length before
  pub rest : drop (evidence_words * g.types) after ≡ drop (evidence_words * g.types) before
