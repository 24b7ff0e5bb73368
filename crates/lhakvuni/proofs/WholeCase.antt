-- Document 01, "Whole case", of the promise itself: its two records are the list of this table, and what `records` answers.
use mathlib.Core.Path.{◌≡◌, refl, subst, ◌∙◌}
use mathlib.Core.Bool.{false}
use mathlib.Core.Logic.{inr}
use mathlib.Core.List.{List, ◌∷◌, [], ◌++◌}
use Prim.Native.Nat.{ℕ, zero, suc, ◌*◌, ◌≤◌, ◌<◌}
use native.Mathlib.Omega.{arith}
use lib.ListN.{length, drop, replicate}
use Rattle.table.specs.Layout.{layout_of, none, name_count, type_count, edge_count, field_count, argument_count, member_count, value_count, types_at, edges_at, fields_at, arguments_at, members_at, values_at, roots_at, word_at, start_at}
use Rattle.names.specs.Count.{every}
use Rattle.names.specs.Names.{starts_name, continues_name, is_name, before}
use Rattle.names.specs.Wraps.{layers, bits, good_wrap}
use Rattle.wellformed.specs.WellFormed.{in_limits, right_length, name_good, name_rises, names_right, below, wraps_good, ends_good, root_good, roots_good, types_good, all_ends_good, fields_good, arguments_good, lists_good, sections_fit, field_fits, fields_fit, sections_all_fit, fields_all_fit, words_good, rows_good, fresh, distinct, run_distinct, rows_distinct, rows_all_distinct, names_distinct, refusal_laid, refusal}
use Rattle.wellformed.specs.Examples.{board_text, board_words}
use Rattle.records.specs.declared.Record.{Record}
use Rattle.records.specs.Records.{flat}
use Rattle.records.specs.Rows.{query_root_operation_type, invalid_implementation_field_type}
use Rattle.validation.specs.Validation.{records as list_of}
use Rattle.validation.specs.Examples.{computes as computed}
use Rattle.table.specs.Kinds.{input_object_kind}
use Rattle.links.specs.Fields.{is_input_object}
use Rattle.chains.specs.Work.{work_words}
use Rattle.chains.proofs.Counts.{other_none}
use Rattle.std.specs.Prelude.{Ok}
use Rattle.lhakvuni.specs.Answers.{Answer}
use Rattle.lhakvuni.specs.Promise.{Promised}
use Rattle.lhakvuni.specs.Calls.{records_number, Listed, RecordsKept}
use Rattle.lhakvuni.proofs.NumberLaws.{records_number_lem, work_long}
use Rattle.lhakvuni.proofs.PromiseLaws.{returned_one}
use Rattle.lhakvuni.proofs.OneAnswer.{one_list}

-- no query; and the field id of Board has another type than Node's
abbrev pub board_records : List Record
board_records = query_root_operation_type ∷ invalid_implementation_field_type 1 0 0 1 ∷ []

-- their ten words
abbrev pub board_list : List ℕ
board_list = 1 ∷ none ∷ none ∷ none ∷ none ∷ 10 ∷ 1 ∷ 0 ∷ 0 ∷ 1 ∷ []

opened : List ℕ → List ℕ → ℕ
unfolding input_object_kind refusal refusal_laid in_limits right_length name_good name_rises names_right below wraps_good ends_good root_good roots_good types_good all_ends_good fields_good arguments_good lists_good sections_fit field_fits fields_fit sections_all_fit fields_all_fit words_good rows_good fresh distinct run_distinct rows_distinct rows_all_distinct names_distinct every starts_name continues_name is_name before layers bits good_wrap name_count type_count edge_count field_count argument_count member_count value_count types_at edges_at fields_at arguments_at members_at values_at roots_at word_at start_at
opened text w = refusal text w

board : refusal board_text board_words ≡ 0
unfolding opened
board = refl

no_input : (t : ℕ) → t < 2 → is_input_object board_words t ≡ false
unfolding computed input_object_kind
no_input zero l = refl
no_input (suc zero) l = refl
no_input (suc (suc t)) l = absurd (omega arith)

types : type_count board_words ≡ 2
unfolding computed
types = refl

list : board_records ≡ list_of board_text board_words (λ t. 0)
unfolding computed
list = refl

-- the two records are the list of the whole case, with the counts that its chains give: it has no input objects
pub board_listed : Listed board_text board_words board_records
board_listed = record {
  counts = λ t. 0;
  right = λ t l. record { fields = []; right = inr (other_none board_words t (no_input t (subst (λ (n : ℕ). t < n) types l)), refl); count = refl };
  list = list;
}

words : flat board_records ≡ board_list
unfolding flat
words = refl

work_fits : (work : List ℕ) → 6 ≤ length work → records_number board_text board_words work ≡ 0
work_fits work h =
    let room : work_words * type_count board_words ≤ length work = rw types h in
    records_number_lem board_text board_words board work ∙ work_long board_words (layout_of board_words) refl work_words work room

module _ (work out work' out' : List ℕ) (a : Answer) (room : 6 ≤ length work) (fits : 10 ≤ length out) where
  -- the call on the whole case, lent work for two types and an output for two rows or more: two rows, these ten words, and what stood behind
  -- them; the six work words are 0, and those behind them are left
  pub board_answered : RecordsKept board_text board_words work out work' out' a → (a ≡ Ok 2) × (out' ≡ board_list ++ drop 10 out) × (work' ≡ replicate 6 0 ++ drop 6 work)
  unfolding flat
  board_answered kept =
      let same : kept.rows ≡ board_records = one_list board_text board_words kept.rows board_records kept.listed board_listed in
      let promise : Promised (records_number board_text board_words work) 6 2 board_list work out work' out' a = rw (same, types) at kept.promise in
      let given = promise.given (work_fits work room) in
      let done = given.0.done fits in
      (returned_one a (Ok 2) 0 (λ _. 2) done.0 (record { number_is = refl; value_is = λ v. refl }), done.1, given.1)
