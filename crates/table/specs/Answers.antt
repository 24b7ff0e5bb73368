-- Document 01's numbers for the kinds and for the table's refusals, which are enums.
use Rattle.std.specs.Prelude.{◌≡◌, ℕ, ◌≤◌, Result, MatchResult}
use Rattle.table.specs.declared.kinds.Kind.{Kind}
use Rattle.table.specs.declared.kinds.Kind.TheVariants.{Scalar, Object, Interface, Union, Enum, InputObject}
use Rattle.table.specs.declared.kinds.NoKind.{NoKind}
use Rattle.table.specs.declared.refusal.Malformed.{Malformed}
use Rattle.table.specs.declared.refusal.Malformed.TheVariants.{TooFewWords, AboveLimit, WrongLength, BadNames, BadWord, Twice}
use Rattle.table.specs.Kinds.{kinds, scalar, object, interface, union, enum, input_object}
use Rattle.table.specs.Refusals.{too_few_words, above_limit, wrong_length, bad_names, bad_word, twice}

-- the number of a kind
abbrev pub kind_number : Kind → ℕ
kind_number Scalar = scalar
kind_number Object = object
kind_number Interface = interface
kind_number Union = union
kind_number Enum = enum
kind_number InputObject = input_object

-- the kind of a number, where it is one; where it is none's, that number
abbrev pub KindOf : ℕ → Result Kind NoKind → Type 0
KindOf k r = MatchResult r (λ kind. kind_number kind ≡ k) (λ e. (kinds ≤ k) × (e.0 ≡ k))

-- the number of one of the table's refusals
abbrev pub malformed_number : Malformed → ℕ
malformed_number TooFewWords = too_few_words
malformed_number AboveLimit = above_limit
malformed_number WrongLength = wrong_length
malformed_number BadNames = bad_names
malformed_number BadWord = bad_word
malformed_number Twice = twice
