-- The walk that settles types: what its functions promise each other.
use Rattle.std.specs.Prelude.{◌≡◌, List, ℕ, ◌*◌, ◌≤◌, ◌<◌, length, drop}
use Rattle.links.specs.Chains.{Graph, Chain}
use Rattle.chains.specs.Work.{work_words, mark_of, settled_mark}
use Rattle.chains.specs.Answer.{Marking, Settled}

module _ (g : Graph) where
  -- the marks are right, and there is room for a trail behind the counts
  pub record Walking (W : List ℕ) : Type 0 where
    pub marking : Marking g W
    pub trail : work_words * g.types ≤ length W

  -- the marks are right again, and nothing behind the trail has changed
  pub record Settling (W X : List ℕ) : Type 0 where
    pub marking : Marking g X
    pub size : length X ≡ length W
    pub rest : drop (work_words * g.types) X ≡ drop (work_words * g.types) W

  -- the chain fields of s below f lead to settled types
  abbrev pub LedTo : List ℕ → ℕ → ℕ → Type 0
  LedTo W s f = (h u : ℕ) → h < f → Chain g s h u → mark_of W u ≡ settled_mark

  -- what is marked is settled, and nothing behind the trail has changed. How many types are is not said: it changes no answer.
  pub record AllSettled (W X : List ℕ) : Type 0 where
    pub settled : Settled g X
    pub size : length X ≡ length W
    pub rest : drop (work_words * g.types) X ≡ drop (work_words * g.types) W
