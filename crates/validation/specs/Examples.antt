-- Worked examples, by computation: the whole case, and a smallest table for each record code. The lists are those of the oracle, which was
-- written apart from these definitions.
use Rattle.std.specs.Prelude.{◌≡◌, refl, cond, List, ◌∷◌, [], ℕ, eqb}
use Rattle.names.specs.Names.{same_bytes, starts_reserved, builtin_scalar}
use Rattle.names.specs.Wraps.{layers, bits, non_null}
use Rattle.table.specs.Layout.{none, name_count, type_count, edge_count, field_count, argument_count, member_count, value_count, types_at, edges_at, fields_at, arguments_at, members_at, values_at, roots_at, word_at, start_at}
use Rattle.table.specs.Kinds.{scalar, object, interface, union, enum, input_object, input_object_kind}
use Rattle.table.specs.Tables.{name_row, type_row, edge_row, field_row, argument_row, member_row, value_row, roots_row, Sections, no_rows, table_of}
use Rattle.wellformed.specs.Examples.{board_text, board_words}
use Rattle.records.specs.Records.{flat, each}
use Rattle.records.specs.Rows.{query_root_operation_type, root_operation_object_type, undefined_definition, duplicate_root_operation_type, reserved_name, recursive_interface_definition, empty_field_set, transitive_implemented_interfaces, missing_interface_field, invalid_implementation_field_type, missing_interface_field_argument, invalid_implementation_field_argument_type, extra_required_implementation_field_argument, union_member_object_type, empty_member_set, empty_value_set, recursive_input_object_definition, input_type, output_type, unique_input_value, empty_input_value_set, at_root, at_argument, at_input_field, at_member, at_value, at_type_name}
use Rattle.rows.specs.Search.{find, index_of}
use Rattle.rows.specs.Parts.{run_of, edges_of, fields_of, members_of, values_of, arguments_of, field_named, argument_named}
use Rattle.rows.specs.Types.{type_named, defined, is_interface, reserved, builtin}
use Rattle.inputs.specs.Names.{name_record}
use Rattle.rules.specs.Enum.{value_record, enum_records}
use Rattle.rules.specs.Union.{member_record, union_records}
use Rattle.roots.specs.Schema.{root_type, first_root, root_repeat, root_records, query_record, schema_records}
use Rattle.inputs.specs.InputObject.{input_type_record, argument_record, repeat_record, arguments_records, input_field_record, input_fields_records, cycle_record, input_object_records}
use Rattle.rules.specs.Field.{output_type_record, field_record, fields_records}
use Rattle.comparing.specs.FieldTypes.{layers_fit, wraps_fit, implements, object_member, names_match, field_type_fits}
use Rattle.matching.specs.Fields.{interface_fields, missing_field, field_type_record, field_arguments}
use Rattle.implementing.specs.Interface.{self_edge, undefined_edge, defined_edges, transitive_edge, transitive_edges, implements_records, implemented_fields, edges_records}
use Rattle.comparing.specs.Arguments.{interface_argument, extra_argument, implementing_arguments}
use Rattle.validation.specs.Object.{object_records, interface_records}
use Rattle.validation.specs.Validation.{kind_records, type_records, records}

-- no type has a first cycle
abbrev no_cycles : ℕ → ℕ
no_cycles t = 0

-- with every definition open
unfoldable pub computes : (text w : List ℕ) (cycles : ℕ → ℕ) → List ℕ
unfolding same_bytes starts_reserved builtin_scalar layers bits non_null name_count type_count edge_count field_count argument_count member_count value_count types_at edges_at fields_at arguments_at members_at values_at roots_at word_at start_at flat each find index_of run_of edges_of fields_of members_of values_of arguments_of field_named argument_named type_named defined is_interface reserved builtin input_object_kind name_record value_record enum_records member_record union_records root_type first_root root_repeat root_records query_record schema_records input_type_record argument_record repeat_record arguments_records input_field_record input_fields_records cycle_record input_object_records output_type_record field_record fields_records layers_fit wraps_fit implements object_member names_match field_type_fits self_edge undefined_edge defined_edges interface_fields transitive_edge transitive_edges missing_field field_type_record interface_argument extra_argument implementing_arguments field_arguments implements_records implemented_fields edges_records object_records interface_records kind_records type_records records
computes text w cycles = flat (records text w cycles)

-- document 01, "Whole case": its words, as the document writes them
board : flat (records board_text board_words no_cycles) ≡ 1 ∷ none ∷ none ∷ none ∷ none ∷ 10 ∷ 1 ∷ 0 ∷ 0 ∷ 1 ∷ []
unfolding computes
board = refl

-- 1: no query, and nothing else
no_query : records [] (table_of no_rows) no_cycles ≡ query_root_operation_type ∷ []
unfolding computes
no_query = refl

-- type Q { a: ID } scalar __A scalar __B, the last of the built-in file (names: ID Q __A __B a)
abbrev reserved_name_rows : Sections
reserved_name_rows = record {
  names = name_row 0 2 ∷ name_row 2 1 ∷ name_row 3 3 ∷ name_row 6 3 ∷ name_row 9 1 ∷ [];
  types = type_row 1 object 0 0 1 0 0 ∷ type_row 2 scalar 0 0 1 0 0 ∷ type_row 3 scalar 1 0 1 0 0 ∷ [];
  edges = [];
  fields = field_row 4 0 0 0 0 ∷ [];
  arguments = [];
  members = [];
  values = [];
  roots = roots_row 1 none none;
}

-- 5: flag 1 silences it for `__B`
reserved_name_example : records (73 ∷ 68 ∷ 81 ∷ 95 ∷ 95 ∷ 65 ∷ 95 ∷ 95 ∷ 66 ∷ 97 ∷ []) (table_of reserved_name_rows) no_cycles
    ≡ reserved_name 1 2 at_type_name 1 ∷ []
unfolding computes
reserved_name_example = refl

-- scalar S schema { query: S mutation: S subscription: X } (names: S X)
abbrev wrong_roots_rows : Sections
wrong_roots_rows = record {
  names = name_row 0 1 ∷ name_row 1 1 ∷ [];
  types = type_row 0 scalar 0 0 0 0 0 ∷ [];
  edges = [];
  fields = [];
  arguments = [];
  members = [];
  values = [];
  roots = roots_row 0 0 1;
}

-- 2, 3 and 4: a query that is no object, the mutation again, an undefined subscription
wrong_roots : records (83 ∷ 88 ∷ []) (table_of wrong_roots_rows) no_cycles
    ≡ root_operation_object_type 0 0 ∷ root_operation_object_type 1 0 ∷ duplicate_root_operation_type 1 0 0 ∷ undefined_definition none 1 at_root 2 ∷ []
unfolding computes
wrong_roots = refl

-- type Q { a: ID } interface I implements I (names: I ID Q a)
abbrev self_edge_rows : Sections
self_edge_rows = record {
  names = name_row 0 1 ∷ name_row 1 2 ∷ name_row 3 1 ∷ name_row 4 1 ∷ [];
  types = type_row 2 object 0 0 1 0 0 ∷ type_row 0 interface 0 1 1 0 0 ∷ [];
  edges = edge_row 0 ∷ [];
  fields = field_row 3 1 0 0 0 ∷ [];
  arguments = [];
  members = [];
  values = [];
  roots = roots_row 2 none none;
}

-- 6 and 7: an interface with an edge to itself and no field
self_edge_example : records (73 ∷ 73 ∷ 68 ∷ 81 ∷ 97 ∷ []) (table_of self_edge_rows) no_cycles
    ≡ recursive_interface_definition 1 0 ∷ empty_field_set 1 ∷ []
unfolding computes
self_edge_example = refl

-- interface I { a: ID } interface J implements I { a: ID } type Q implements J { a: ID } (names: I ID J Q a)
abbrev transitive_edge_rows : Sections
transitive_edge_rows = record {
  names = name_row 0 1 ∷ name_row 1 2 ∷ name_row 3 1 ∷ name_row 4 1 ∷ name_row 5 1 ∷ [];
  types = type_row 0 interface 0 0 1 0 0 ∷ type_row 2 interface 0 1 2 0 0 ∷ type_row 3 object 0 2 3 0 0 ∷ [];
  edges = edge_row 0 ∷ edge_row 2 ∷ [];
  fields = field_row 4 1 0 0 0 ∷ field_row 4 1 0 0 0 ∷ field_row 4 1 0 0 0 ∷ [];
  arguments = [];
  members = [];
  values = [];
  roots = roots_row 3 none none;
}

-- 8: Q has J, which has I, but not I
transitive_edge_example : records (73 ∷ 73 ∷ 68 ∷ 74 ∷ 81 ∷ 97 ∷ []) (table_of transitive_edge_rows) no_cycles
    ≡ transitive_implemented_interfaces 2 1 0 ∷ []
unfolding computes
transitive_edge_example = refl

-- interface I { a: ID } type Q implements I { b: ID } (names: I ID Q a b)
abbrev missing_field_rows : Sections
missing_field_rows = record {
  names = name_row 0 1 ∷ name_row 1 2 ∷ name_row 3 1 ∷ name_row 4 1 ∷ name_row 5 1 ∷ [];
  types = type_row 0 interface 0 0 1 0 0 ∷ type_row 2 object 0 1 2 0 0 ∷ [];
  edges = edge_row 0 ∷ [];
  fields = field_row 3 1 0 0 0 ∷ field_row 4 1 0 0 0 ∷ [];
  arguments = [];
  members = [];
  values = [];
  roots = roots_row 2 none none;
}

-- 9: the interface's field a is missing
missing_field_example : records (73 ∷ 73 ∷ 68 ∷ 81 ∷ 97 ∷ 98 ∷ []) (table_of missing_field_rows) no_cycles
    ≡ missing_interface_field 1 0 0 ∷ []
unfolding computes
missing_field_example = refl

-- interface I { a(x: ID, y: ID): ID } type Q implements I { a(y: ID!, z: ID!, u: ID! = 0): ID } (names: I ID Q a u x y z)
abbrev wrong_arguments_rows : Sections
wrong_arguments_rows = record {
  names = name_row 0 1 ∷ name_row 1 2 ∷ name_row 3 1 ∷ name_row 4 1 ∷ name_row 5 1 ∷ name_row 6 1 ∷ name_row 7 1 ∷ name_row 8 1 ∷ [];
  types = type_row 0 interface 0 0 1 0 0 ∷ type_row 2 object 0 1 2 0 0 ∷ [];
  edges = edge_row 0 ∷ [];
  fields = field_row 3 1 0 2 0 ∷ field_row 3 1 0 5 0 ∷ [];
  arguments = argument_row 5 1 0 0 ∷ argument_row 6 1 0 0 ∷ argument_row 6 1 16 0 ∷ argument_row 7 1 16 0 ∷ argument_row 4 1 16 1 ∷ [];
  members = [];
  values = [];
  roots = roots_row 2 none none;
}

-- 11, 12 and 13: x is missing, y has another type, z is extra and required, u has a default
wrong_arguments : records (73 ∷ 73 ∷ 68 ∷ 81 ∷ 97 ∷ 117 ∷ 120 ∷ 121 ∷ 122 ∷ []) (table_of wrong_arguments_rows) no_cycles
    ≡ missing_interface_field_argument 1 0 1 0 ∷ invalid_implementation_field_argument_type 1 0 1 2 ∷ extra_required_implementation_field_argument 1 0 0 3 ∷ []
unfolding computes
wrong_arguments = refl

-- type Q { a: ID } scalar S union U = S | X union W (names: ID Q S U W X a)
abbrev wrong_members_rows : Sections
wrong_members_rows = record {
  names = name_row 0 2 ∷ name_row 2 1 ∷ name_row 3 1 ∷ name_row 4 1 ∷ name_row 5 1 ∷ name_row 6 1 ∷ name_row 7 1 ∷ [];
  types = type_row 1 object 0 0 1 0 0 ∷ type_row 2 scalar 0 0 1 0 0 ∷ type_row 3 union 0 0 1 2 0 ∷ type_row 4 union 0 0 1 2 0 ∷ [];
  edges = [];
  fields = field_row 6 0 0 0 0 ∷ [];
  arguments = [];
  members = member_row 2 ∷ member_row 5 ∷ [];
  values = [];
  roots = roots_row 1 none none;
}

-- 14 and 3 for a member, and 15
wrong_members : records (73 ∷ 68 ∷ 81 ∷ 83 ∷ 85 ∷ 87 ∷ 88 ∷ 97 ∷ []) (table_of wrong_members_rows) no_cycles
    ≡ union_member_object_type 2 0 ∷ undefined_definition 2 5 at_member 1 ∷ empty_member_set 3 ∷ []
unfolding computes
wrong_members = refl

-- type Q { a: ID } enum E { __a b } enum F (names: E F ID Q __a a b)
abbrev wrong_values_rows : Sections
wrong_values_rows = record {
  names = name_row 0 1 ∷ name_row 1 1 ∷ name_row 2 2 ∷ name_row 4 1 ∷ name_row 5 3 ∷ name_row 8 1 ∷ name_row 9 1 ∷ [];
  types = type_row 3 object 0 0 1 0 0 ∷ type_row 0 enum 0 0 1 0 2 ∷ type_row 1 enum 0 0 1 0 2 ∷ [];
  edges = [];
  fields = field_row 5 2 0 0 0 ∷ [];
  arguments = [];
  members = [];
  values = value_row 4 ∷ value_row 6 ∷ [];
  roots = roots_row 3 none none;
}

-- 5 for a value, and 16
wrong_values : records (69 ∷ 70 ∷ 73 ∷ 68 ∷ 81 ∷ 95 ∷ 95 ∷ 97 ∷ 97 ∷ 98 ∷ []) (table_of wrong_values_rows) no_cycles
    ≡ reserved_name 1 4 at_value 0 ∷ empty_value_set 2 ∷ []
unfolding computes
wrong_values = refl

-- type Q { a: ID } input A { a: A! q: Q } input B (names: A B ID Q a q)
abbrev wrong_inputs_rows : Sections
wrong_inputs_rows = record {
  names = name_row 0 1 ∷ name_row 1 1 ∷ name_row 2 2 ∷ name_row 4 1 ∷ name_row 5 1 ∷ name_row 6 1 ∷ [];
  types = type_row 3 object 0 0 1 0 0 ∷ type_row 0 input_object 0 0 3 0 0 ∷ type_row 1 input_object 0 0 3 0 0 ∷ [];
  edges = [];
  fields = field_row 4 2 0 0 0 ∷ field_row 4 0 16 0 0 ∷ field_row 5 3 0 0 0 ∷ [];
  arguments = [];
  members = [];
  values = [];
  roots = roots_row 3 none none;
}

-- 17, 18 and 21: the cycle's count is handed in
wrong_inputs : records (65 ∷ 66 ∷ 73 ∷ 68 ∷ 81 ∷ 97 ∷ 113 ∷ []) (table_of wrong_inputs_rows) (λ t. cond (eqb t 1) 1 0)
    ≡ recursive_input_object_definition 1 1 ∷ input_type 1 at_input_field 2 ∷ empty_input_value_set 2 ∷ []
unfolding computes
wrong_inputs = refl

-- input A type Q { a(x: ID, x: ID, x: X): A } (names: A ID Q X a x)
abbrev repeated_arguments_rows : Sections
repeated_arguments_rows = record {
  names = name_row 0 1 ∷ name_row 1 2 ∷ name_row 3 1 ∷ name_row 4 1 ∷ name_row 5 1 ∷ name_row 6 1 ∷ [];
  types = type_row 0 input_object 0 0 1 0 0 ∷ type_row 2 object 0 0 2 0 0 ∷ [];
  edges = [];
  fields = field_row 4 1 0 0 0 ∷ field_row 4 0 0 3 0 ∷ [];
  arguments = argument_row 5 1 0 0 ∷ argument_row 5 1 0 0 ∷ argument_row 5 3 0 0 ∷ [];
  members = [];
  values = [];
  roots = roots_row 2 none none;
}

-- 19, 20 and 3: two repeats are both against the first
repeated_arguments : records (65 ∷ 73 ∷ 68 ∷ 81 ∷ 88 ∷ 97 ∷ 120 ∷ []) (table_of repeated_arguments_rows) no_cycles
    ≡ undefined_definition 1 3 at_argument 2 ∷ unique_input_value 1 0 1 ∷ unique_input_value 1 0 2 ∷ output_type 1 1 ∷ []
unfolding computes
repeated_arguments = refl

-- interface I { f: U } type Q implements I { f: S } scalar S union U = S (names: I Q S U f)
abbrev no_object_member_rows : Sections
no_object_member_rows = record {
  names = name_row 0 1 ∷ name_row 1 1 ∷ name_row 2 1 ∷ name_row 3 1 ∷ name_row 4 1 ∷ [];
  types = type_row 0 interface 0 0 1 0 0 ∷ type_row 1 object 0 1 2 0 0 ∷ type_row 2 scalar 0 1 2 0 0 ∷ type_row 3 union 0 1 2 1 0 ∷ [];
  edges = edge_row 0 ∷ [];
  fields = field_row 4 3 0 0 0 ∷ field_row 4 2 0 0 0 ∷ [];
  arguments = [];
  members = member_row 2 ∷ [];
  values = [];
  roots = roots_row 1 none none;
}

-- 10 and 14: a union member that is no object does not do
no_object_member : records (73 ∷ 81 ∷ 83 ∷ 85 ∷ 102 ∷ []) (table_of no_object_member_rows) no_cycles
    ≡ invalid_implementation_field_type 1 0 0 1 ∷ union_member_object_type 3 0 ∷ []
unfolding computes
no_object_member = refl
