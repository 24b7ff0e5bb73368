-- A well-formed table is readable by its own layout.
use mathlib.Core.List.{List}
use Prim.Native.Nat.{ℕ}
use Rattle.table.specs.Layout.{layout_of}
use Rattle.wellformed.specs.Sound.{Sound}
use Rattle.rows.specs.Readable.{SoundRows, Readable}

pub sound_rows : {text w : List ℕ} → Sound text w → SoundRows w (layout_of w)
sound_rows s = record { laid = s.laid; words = s.words; runs = s.runs }

pub readable : (text w : List ℕ) → Sound text w → Readable text w (layout_of w)
readable text w s = record { sound = sound_rows s; spelled = s.names.inside }
