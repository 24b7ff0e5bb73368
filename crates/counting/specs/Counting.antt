-- The counts of first cycles in the work table.
use Rattle.std.specs.Prelude.{◌≡◌, List, ℕ, ◌+◌, ◌*◌, ◌<◌, length, get_or, take, drop}
use Rattle.links.specs.Chains.{Graph}
use Rattle.chains.specs.Work.{work_words, counts_at}
use Rattle.chains.specs.Answer.{CycleCount}

-- each type's count stands in its place; the words behind the work table are unchanged
pub record Counted (g : Graph) (before after : List ℕ) : Type 0 where
  pub counts : (t : ℕ) → t < g.types → CycleCount g t (get_or after (counts_at g.types + t) 0)
  pub size : length after ≡ length before
  pub rest : drop (work_words * g.types) after ≡ drop (work_words * g.types) before

-- the count of type t, of k
abbrev pub counts_in : ℕ → List ℕ → ℕ → ℕ
counts_in k W t = get_or (take k (drop (counts_at k) W)) t 0
