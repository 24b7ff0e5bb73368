-- What stands behind some words.
use mathlib.Core.Path.{◌≡◌, sym, ap, ◌∙◌}
use mathlib.Core.List.{List}
use Prim.Native.Nat.{ℕ, ◌+◌, ◌-◌, ◌≤◌}
use native.Mathlib.Omega.{arith}
use lib.ListN.{drop}
use lib.Seq.{drop-drop}

-- what stands behind k words stands behind more
pub rest_behind : (k n : ℕ) (W X : List ℕ) → k ≤ n → drop k X ≡ drop k W → drop n X ≡ drop n W
rest_behind k n W X h e =
    let s : k + (n - k) ≡ n = omega arith in
    rw s at (sym (drop-drop (n - k) k X) ∙ ap (drop (n - k)) e ∙ drop-drop (n - k) k W)
