-- Document 01, "The schema table": the kinds of types by their numbers, and what each may own.
use Rattle.std.specs.Prelude.{Bool, ◌||◌, ℕ, eqb}

abbrev pub scalar : ℕ
scalar = 0

abbrev pub object : ℕ
object = 1

abbrev pub interface : ℕ
interface = 2

abbrev pub union : ℕ
union = 3

abbrev pub enum : ℕ
enum = 4

abbrev pub input_object : ℕ
input_object = 5

-- how many kinds there are: a kind's number is below this
abbrev pub kinds : ℕ
kinds = 6

-- an object or an interface
abbrev pub composite : ℕ → Bool
composite k = eqb k object || eqb k interface

-- an input object: wherever document 01 says kind 5, this is asked
unfoldable pub input_object_kind : ℕ → Bool
input_object_kind k = eqb k input_object

-- edges stand on objects and interfaces alone
abbrev pub owns_edges : ℕ → Bool
owns_edges k = composite k

-- fields on these and on input objects
abbrev pub owns_fields : ℕ → Bool
owns_fields k = composite k || input_object_kind k

-- members on unions
abbrev pub owns_members : ℕ → Bool
owns_members k = eqb k union

-- values on enums
abbrev pub owns_values : ℕ → Bool
owns_values k = eqb k enum

-- arguments on fields of objects and interfaces
abbrev pub takes_arguments : ℕ → Bool
takes_arguments k = composite k

-- a default of 1 on fields of input objects
abbrev pub takes_default : ℕ → Bool
takes_default k = input_object_kind k
