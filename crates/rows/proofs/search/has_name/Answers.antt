-- `has_name`: the name stands at some place of the part, or at none.
use Rattle.std.proofs.Common.{◌≡◌, ℕ, ◌<◌, Bool, true, false, eqb, MatchBool, List, length, sym, get_or, zero-le, ⊎_elim, arith}
use Rattle.std.proofs.lemmas.Bool.{lt-ltb, le-ltb, both_ways, cases_lt}
use Rattle.std.specs.List.{HoldsAt, AllWithin}
use Rattle.rows.specs.Search.{index_of, contains}
use Rattle.rows.proofs.FindLaws.{find_holds, find_least}
use Rattle.rows.proofs.search.has_name.Goals as goal

stands : (l : List ℕ) (n : ℕ) (r : Bool) → MatchBool r ((k : ℕ) × (k < length l) × HoldsAt (λ x. eqb x n ≡ true) l k) (AllWithin (λ x. eqb x n ≡ false) l 0 (length l)) → r ≡ contains l n
unfolding index_of
stands l n true (k, b, h) =
    sym (lt-ltb (index_of l n) (length l)
    (⊎_elim (λ a. a) (λ a. absurd (both_ways _ (find_least (λ i. eqb (get_or l i 0) n) (length l) 0 k zero-le (omega arith)) (h 0))) (cases_lt (index_of l n) (length l))))
stands l n false none =
    sym (le-ltb (index_of l n) (length l)
    (⊎_elim (λ a. absurd (both_ways _ (none (index_of l n) 0 zero-le a) (find_holds (λ i. eqb (get_or l i 0) n) (length l) 0 (omega arith)))) (λ a. a) (cases_lt (index_of l n) (length l))))

pub returns : goal.returns
returns c = stands _ _ _ c.contains.ensures.cases
