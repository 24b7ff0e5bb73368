-- Document 01, "Boards for the proof table": the tables of the four boards of chains. Each is well-formed, by computation.
-- The counts of their types stand in proofs/BoardLaws.
use Rattle.std.specs.Prelude.{◌≡◌, refl, List, ◌∷◌, [], ℕ}
use Rattle.names.specs.Count.{every}
use Rattle.names.specs.Names.{starts_name, continues_name, is_name, before}
use Rattle.names.specs.Wraps.{layers, bits, good_wrap}
use Rattle.table.specs.Kinds.{input_object, input_object_kind}
use Rattle.table.specs.Layout.{name_count, type_count, edge_count, field_count, argument_count, member_count, value_count, types_at, edges_at, fields_at, arguments_at, members_at, values_at, roots_at, word_at, start_at}
use Rattle.wellformed.specs.WellFormed.{in_limits, right_length, name_good, name_rises, names_right, below, wraps_good, ends_good, root_good, roots_good, types_good, all_ends_good, fields_good, arguments_good, lists_good, sections_fit, field_fits, fields_fit, sections_all_fit, fields_all_fit, words_good, rows_good, fresh, distinct, run_distinct, rows_distinct, rows_all_distinct, names_distinct, refusal_laid, refusal}
use Rattle.table.specs.Tables.{name_row, type_row, field_row, no_roots, table_of}
use Rattle.links.specs.Fields.{chain_wrap}

-- with every definition open
computes : List ℕ → List ℕ → ℕ
unfolding input_object_kind refusal refusal_laid in_limits right_length name_good name_rises names_right below wraps_good ends_good root_good roots_good types_good all_ends_good fields_good arguments_good lists_good sections_fit field_fits fields_fit sections_all_fit fields_all_fit words_good rows_good fresh distinct run_distinct rows_distinct rows_all_distinct names_distinct every starts_name continues_name is_name before layers bits good_wrap name_count type_count edge_count field_count argument_count member_count value_count types_at edges_at fields_at arguments_at members_at values_at roots_at word_at start_at
computes text w = refusal text w

-- a table of names, types and fields alone
abbrev input_table : (names types fields : List (List ℕ)) → List ℕ
input_table names types fields =
    table_of (record { names = names; types = types; edges = []; fields = fields; arguments = []; members = []; values = []; roots = no_roots })

-- A{a: A!}, or with another wrap; the text is Aa
abbrev pub one_text : List ℕ
one_text = 65 ∷ 97 ∷ []

abbrev pub one_words : ℕ → List ℕ
one_words wrap = input_table (name_row 0 1 ∷ name_row 1 1 ∷ []) (type_row 0 input_object 0 0 1 0 0 ∷ []) (field_row 1 0 wrap 0 0 ∷ [])

-- A{a: A!}
abbrev pub self_words : List ℕ
self_words = one_words chain_wrap

self_good : refusal one_text self_words ≡ 0
unfolding computes
self_good = refl

-- A{a: [A!]!}
abbrev pub list_words : List ℕ
list_words = one_words 49

list_good : refusal one_text list_words ≡ 0
unfolding computes
list_good = refl

-- A{a: A}
abbrev pub null_words : List ℕ
null_words = one_words 0

null_good : refusal one_text null_words ≡ 0
unfolding computes
null_good = refl

-- two types A and B, each with one field that has wrap 16; the text is ABab
abbrev pub two_text : List ℕ
two_text = 65 ∷ 66 ∷ 97 ∷ 98 ∷ []

abbrev pub two_words : (aName a_type bName bType : ℕ) → List ℕ
two_words aName a_type bName bType =
    input_table
    (name_row 0 1 ∷ name_row 1 1 ∷ name_row 2 1 ∷ name_row 3 1 ∷ [])
    (type_row 0 input_object 0 0 1 0 0 ∷ type_row 1 input_object 0 0 2 0 0 ∷ [])
    (field_row aName a_type chain_wrap 0 0 ∷ field_row bName bType chain_wrap 0 0 ∷ [])

-- A{b: B!} B{b: B!}
abbrev pub tail_words : List ℕ
tail_words = two_words 3 1 3 1

tail_good : refusal two_text tail_words ≡ 0
unfolding computes
tail_good = refl

-- A{b: B!} B{a: A!}
abbrev pub ring_words : List ℕ
ring_words = two_words 3 1 2 0

ring_good : refusal two_text ring_words ≡ 0
unfolding computes
ring_good = refl
