-- Document 01, "Records": the 21 records, named after the Rust's DiagnosticData. Unused words are NONE.
use Rattle.std.specs.Prelude.{ℕ}
use Rattle.records.specs.declared.Record.{Record}
use Rattle.table.specs.Layout.{none}

-- a record of a code and a type, and the three words that say the rest
abbrev pub row : (code ty a b c : ℕ) → Record
row code ty a b c = record { code = record { 0 = code }; ty = record { 0 = ty }; a = record { 0 = a }; b = record { 0 = b }; c = record { 0 = c } }

abbrev pub query_root_operation_type : Record
query_root_operation_type = row 1 none none none none

abbrev pub root_operation_object_type : ℕ → ℕ → Record
root_operation_object_type operation name = row 2 none operation name none

abbrev pub undefined_definition : ℕ → ℕ → ℕ → ℕ → Record
undefined_definition ty name place at = row 3 ty name place at

abbrev pub duplicate_root_operation_type : ℕ → ℕ → ℕ → Record
duplicate_root_operation_type operation name first = row 4 none operation name first

abbrev pub reserved_name : ℕ → ℕ → ℕ → ℕ → Record
reserved_name ty name place at = row 5 ty name place at

abbrev pub recursive_interface_definition : ℕ → ℕ → Record
recursive_interface_definition ty edge = row 6 ty edge none none

abbrev pub empty_field_set : ℕ → Record
empty_field_set ty = row 7 ty none none none

abbrev pub transitive_implemented_interfaces : ℕ → ℕ → ℕ → Record
transitive_implemented_interfaces ty viaEdge interfaceEdge = row 8 ty viaEdge interfaceEdge none

abbrev pub missing_interface_field : ℕ → ℕ → ℕ → Record
missing_interface_field ty edge interfaceField = row 9 ty edge interfaceField none

abbrev pub invalid_implementation_field_type : ℕ → ℕ → ℕ → ℕ → Record
invalid_implementation_field_type ty edge interfaceField own_field = row 10 ty edge interfaceField own_field

abbrev pub missing_interface_field_argument : ℕ → ℕ → ℕ → ℕ → Record
missing_interface_field_argument ty edge own_field interface_argument = row 11 ty edge own_field interface_argument

abbrev pub invalid_implementation_field_argument_type : ℕ → ℕ → ℕ → ℕ → Record
invalid_implementation_field_argument_type ty edge interface_argument own_argument = row 12 ty edge interface_argument own_argument

abbrev pub extra_required_implementation_field_argument : ℕ → ℕ → ℕ → ℕ → Record
extra_required_implementation_field_argument ty edge interfaceField own_argument = row 13 ty edge interfaceField own_argument

abbrev pub union_member_object_type : ℕ → ℕ → Record
union_member_object_type ty member = row 14 ty member none none

abbrev pub empty_member_set : ℕ → Record
empty_member_set ty = row 15 ty none none none

abbrev pub empty_value_set : ℕ → Record
empty_value_set ty = row 16 ty none none none

abbrev pub recursive_input_object_definition : ℕ → ℕ → Record
recursive_input_object_definition ty fields = row 17 ty fields none none

abbrev pub input_type : ℕ → ℕ → ℕ → Record
input_type ty place at = row 18 ty place at none

abbrev pub output_type : ℕ → ℕ → Record
output_type ty field = row 19 ty field none none

abbrev pub unique_input_value : ℕ → ℕ → ℕ → Record
unique_input_value ty first again = row 20 ty first again none

abbrev pub empty_input_value_set : ℕ → Record
empty_input_value_set ty = row 21 ty none none none

-- what a row in a record is a row of
abbrev pub at_root : ℕ
at_root = 0

abbrev pub at_edge : ℕ
at_edge = 1

abbrev pub at_field : ℕ
at_field = 2

abbrev pub at_argument : ℕ
at_argument = 3

abbrev pub at_input_field : ℕ
at_input_field = 4

abbrev pub at_member : ℕ
at_member = 5

abbrev pub at_value : ℕ
at_value = 6

abbrev pub at_type_name : ℕ
at_type_name = 7
