-- Document 01, "Evidence": the seven rules, each a test of one row that computes. T is the number of types of the graph.
use Rattle.std.specs.Prelude.{◌≡◌, List, Bool, false, not, ◌&&◌, ◌||◌, ℕ, suc, zero, ◌+◌, ◌<◌, leb, ltb, eqb}
use Rattle.std.specs.Bool.{beq}
use Rattle.names.specs.Count.{every}
use Rattle.table.specs.Layout.{none}
use Rattle.wellformed.specs.WellFormed.{unless}
use Rattle.links.specs.Chains.{Graph}
use Rattle.evidence.specs.Words.{number, leader, out_field, out_distance, in_field, in_depth, marked, leads}

-- where the first test holds, so does the second
abbrev pub implies : Bool → Bool → Bool
implies a b = not a || b

-- p holds of a number below n
unfoldable pub any : (ℕ → Bool) → ℕ → Bool
any p zero = false
any p (suc n) = any p n || p n

-- type s has the same leader as t, and depth one less
abbrev pub nearer : List ℕ → ℕ → ℕ → Bool
nearer ev t s = eqb (leader ev s) (leader ev t) && eqb (in_depth ev s + 1) (in_depth ev t)

-- the rules that look at words alone
module _ (ev : List ℕ) (t : ℕ) where
  -- 1. number below T; leader below T or NONE
  unfoldable pub rule1 : ℕ → Bool
  rule1 types = ltb (number ev t) types && (ltb (leader ev t) types || eqb (leader ev t) none)

  -- 2. unmarked: the last four are NONE
  unfoldable pub rule2 : Bool
  rule2 = marked ev t || (eqb (out_field ev t) none && eqb (out_distance ev t) none && eqb (in_field ev t) none && eqb (in_depth ev t) none)

  -- 3. marked: kind 5, and the leader's row names itself as leader
  unfoldable pub rule3 : Bool → Bool
  rule3 kind5 = implies (marked ev t) (kind5 && leads ev (leader ev t))

  -- 4. marked: distance is 0 exactly if it leads itself; depth likewise
  unfoldable pub rule4 : Bool
  rule4 = implies (marked ev t) (beq (eqb (out_distance ev t) 0) (leads ev t) && beq (eqb (in_depth ev t) 0) (leads ev t))

-- the rules that look at chain fields too
module _ (g : Graph) where
  -- f is a chain field of type t
  abbrev pub chain_field : ℕ → ℕ → Bool
  chain_field t f = leb (g.start t) f && ltb f (g.stop t) && ltb (g.next f) g.types

  module _ (ev : List ℕ) (t : ℕ) where
    -- field f is a chain field of this type to one with the same leader; unless it leads itself, that one's distance is one less
    abbrev pub goes_out : ℕ → Bool
    goes_out f = chain_field t f && (eqb (leader ev (g.next f)) (leader ev t) && (leads ev t || eqb (out_distance ev (g.next f) + 1) (out_distance ev t)))

    -- 5. marked: out field is a chain field of this type to one with the same leader; unless it leads itself, that one's distance is
    -- one less
    unfoldable pub rule5 : Bool
    rule5 = implies (marked ev t) (goes_out (out_field ev t))

    -- field f is a chain field of type s to this type; s has the same leader and depth one less
    abbrev pub comes_in : ℕ → ℕ → Bool
    comes_in f s = chain_field s f && eqb (g.next f) t && nearer ev t s

    -- 6. leader: in field NONE; other marked: in field is a chain field to this type, from one with the same leader and depth one less
    unfoldable pub rule6 : Bool
    rule6 = implies (marked ev t) (implies (leads ev t) (eqb (in_field ev t) none) && (leads ev t || any (comes_in (in_field ev t)) g.types))

    -- where field f leads to a type, that has a number no higher, and strictly lower if this type is unmarked
    abbrev pub falls : ℕ → Bool
    falls f = implies (ltb (g.next f) g.types) (leb (number ev (g.next f)) (number ev t) && (marked ev t || ltb (number ev (g.next f)) (number ev t)))

    -- 7. each chain field of this type goes to a number no higher, and strictly lower if this type is unmarked
    unfoldable pub rule7 : Bool
    rule7 = every falls (g.start t) (g.stop t)

  -- `input` is the test for kind 5
  module _ (input : ℕ → Bool) (ev : List ℕ) where
    -- the lowest rule that row t breaks, and 0 where it breaks none
    unfoldable pub lowest : ℕ → ℕ
    lowest t =
        unless (rule1 ev t g.types) 1
        (unless (rule2 ev t) 2
        (unless (rule3 ev t (input t)) 3
        (unless (rule4 ev t) 4
        (unless (rule5 ev t) 5
        (unless (rule6 ev t) 6
        (unless (rule7 ev t) 7 0))))))

    -- every row keeps every rule
    abbrev pub Passes : Type 0
    Passes = (t : ℕ) → t < g.types → lowest t ≡ 0
