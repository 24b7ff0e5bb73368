-- Document 01, "Refusal numbers", 4: the names of the words w, by their layout l, in a text.
use Rattle.std.specs.Prelude.{◌≡◌, Bool, true, ◌&&◌, ◌||◌, List, ℕ, ◌+◌, ◌-◌, ◌≤◌, ◌<◌, length, leb, eqb}
use Rattle.table.specs.declared.layout.Layout.{Layout}
use Rattle.names.specs.Count.{every, part}
use Rattle.names.specs.Names.{is_name, before}
use Rattle.table.specs.Layout.{word_at, name_starts, name_lengths, name_count, name_start, name_length, name_bytes}

-- the end of name i in the text
abbrev pub name_end : List ℕ → Layout → ℕ → ℕ
name_end w l i = word_at w (name_starts l) i + word_at w (name_lengths l) i

-- the bytes of name i
abbrev pub bytes_of : List ℕ → List ℕ → Layout → ℕ → List ℕ
bytes_of text w l i = part text (word_at w (name_starts l) i) (name_end w l i)

-- name i lies in the text and is a Spec Name, so it isn't empty
unfoldable pub name_good : List ℕ → List ℕ → Layout → ℕ → Bool
name_good text w l i = leb (name_end w l i) (length text) && is_name (bytes_of text w l i)

-- name i comes after the name before it, if there is one
unfoldable pub name_rises : List ℕ → List ℕ → Layout → ℕ → Bool
name_rises text w l i = eqb i 0 || before (bytes_of text w l (i - 1)) (bytes_of text w l i)

-- every name is good
abbrev pub names_good : List ℕ → List ℕ → Layout → Bool
names_good text w l = every (name_good text w l) 0 l.names

-- every name rises
abbrev pub names_rise : List ℕ → List ℕ → Layout → Bool
names_rise text w l = every (name_rises text w l) 0 l.names

-- 4: names lie in the text, are Spec Names, and strictly rise
unfoldable pub names_right : List ℕ → List ℕ → Layout → Bool
names_right text w l = names_good text w l && names_rise text w l

-- so names lie in the text, are Spec Names, rise, and so differ in their bytes
pub record SoundNames (text w : List ℕ) : Type 0 where
  pub inside : (n : ℕ) → n < name_count w → name_start w n + name_length w n ≤ length text
  pub good : (n : ℕ) → n < name_count w → is_name (name_bytes text w n) ≡ true
  pub rise : (n m : ℕ) → n < name_count w → m < n → before (name_bytes text w m) (name_bytes text w n) ≡ true
  pub apart : (n m : ℕ) → n < name_count w → m < name_count w → name_bytes text w n ≡ name_bytes text w m → n ≡ m
