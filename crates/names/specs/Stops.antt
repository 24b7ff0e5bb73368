-- Where names in a text must end.
use Rattle.std.specs.Prelude.{◌≡◌, Bool, true, false, List, ℕ, ◌*◌, ◌≤◌, ◌<◌, length, get_or}
use Rattle.names.specs.Count.{every}
use Rattle.names.specs.Names.{continues_name}

-- every byte from `from` up to `to` continues a name
unfoldable pub continue_between : List ℕ → ℕ → ℕ → Bool
continue_between text from to = every (λ i. continues_name (get_or text i 0)) from to

-- s is the first place from i on whose byte continues no name, or the end of the text
pub record Stop (text : List ℕ) (i s : ℕ) : Type 0 where
  pub after : i ≤ s
  pub inside : s ≤ length text
  pub passed : continue_between text i s ≡ true
  pub last : s < length text → continues_name (get_or text s 0) ≡ false

-- a text has at most 1,024 blocks of 64 bytes
abbrev pub most_blocks : ℕ
most_blocks = 1024

abbrev pub most_bytes : ℕ
most_bytes = 64 * most_blocks

-- the stop from each block on
pub record Stops (text stops : List ℕ) : Type 0 where
  pub most : length text ≤ most_bytes
  pub size : length stops ≡ most_blocks
  pub block : (k : ℕ) → 64 * k < length text → Stop text (64 * k) (get_or stops k 0)
