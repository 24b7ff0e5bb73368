-- Document 01, "Refusal numbers": each number by its name. The first six are the table's refusals; `refusal` of WellFormed.antt says in which
-- order they are checked.
use Rattle.std.specs.Prelude.{ℕ}

-- fewer words than the header has
abbrev pub too_few_words : ℕ
too_few_words = 1

-- a count or the text above its limit
abbrev pub above_limit : ℕ
above_limit = 2

-- another length than the formula's
abbrev pub wrong_length : ℕ
wrong_length = 3

-- a name outside the text, that is no Spec Name, or that does not rise
abbrev pub bad_names : ℕ
bad_names = 4

-- a word out of its range, ends that do not cut their section, or rows on a kind that may not own them
abbrev pub bad_word : ℕ
bad_word = 5

-- a name that stands twice where it may not
abbrev pub twice : ℕ
twice = 6

-- first cycle asked for no type, or for one that is no input object
abbrev pub no_input_object : ℕ
no_input_object = 7

-- evidence that has not six words for each type
abbrev pub wrong_evidence : ℕ
wrong_evidence = 8

-- a work table that is too short
abbrev pub short_work : ℕ
short_work = 9

-- an output that is too short
abbrev pub short_out : ℕ
short_out = 10
