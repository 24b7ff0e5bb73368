-- Edges: 3; 8; 9; 10; 11 or 12 per interface argument, then 13. Type t has the edges `edges` from row `edgesFirst` on, and the fields `fields`
-- from row `fieldsFirst` on. 8 to 13 run over defined edges only: viaEdge is such an edge's row, and interfaceType the row of its type.
-- What the interface asks for, its edges, are `demanded`, from row `demandedFirst` on.
use Rattle.std.specs.Prelude.{not, List, ◌∷◌, [], ◌++◌, ℕ, ◌+◌, eqb}
use Rattle.table.specs.Layout.{type_name, edges_start}
use Rattle.records.specs.declared.Record.{Record}
use Rattle.records.specs.Records.{each, when}
use Rattle.records.specs.Rows.{undefined_definition, recursive_interface_definition, transitive_implemented_interfaces, at_edge}
use Rattle.rows.specs.Search.{contains}
use Rattle.rows.specs.Types.{is_interface, type_named}
use Rattle.rows.specs.Parts.{edges_of, edge_rows, edge_name_in}
use Rattle.matching.specs.Fields.{interface_fields, missing_field, field_type_record, field_arguments}

-- 6 for an edge that names the type itself
unfoldable pub self_edge : (w : List ℕ) (t edgesFirst : ℕ) (edges : List ℕ) (i : ℕ) → List Record
self_edge w t edgesFirst edges i = when (eqb (edge_name_in edges i) (type_name w t)) (recursive_interface_definition t (edgesFirst + i) ∷ [])

-- 6 per edge
abbrev pub self_edges : (w : List ℕ) (t edgesFirst : ℕ) (edges : List ℕ) → List Record
self_edges w t edgesFirst edges = each (self_edge w t edgesFirst edges) (edge_rows edges)

-- 3 for an edge that is not defined
unfoldable pub undefined_edge : (w : List ℕ) (t edgesFirst : ℕ) (edges : List ℕ) (i : ℕ) → List Record
undefined_edge w t edgesFirst edges i =
    when (not (is_interface w (edge_name_in edges i))) (undefined_definition t (edge_name_in edges i) at_edge (edgesFirst + i) ∷ [])

-- what f lists for the row and the interface of an edge i, where it is defined
abbrev pub defined_edge : (f : ℕ → ℕ → List Record) (w : List ℕ) (edgesFirst : ℕ) (edges : List ℕ) (i : ℕ) → List Record
defined_edge f w edgesFirst edges i =
    when (is_interface w (edge_name_in edges i)) (f (edgesFirst + i) (type_named w (edge_name_in edges i)))

-- and for each
unfoldable pub defined_edges : (f : ℕ → ℕ → List Record) (w : List ℕ) (edgesFirst : ℕ) (edges : List ℕ) → List Record
defined_edges f w edgesFirst edges = each (defined_edge f w edgesFirst edges) (edge_rows edges)

-- 8 for an edge i of the interface that the type lacks
unfoldable pub transitive_edge : (t : ℕ) (edges : List ℕ) (viaEdge demandedFirst : ℕ) (demanded : List ℕ) (i : ℕ) → List Record
transitive_edge t edges viaEdge demandedFirst demanded i =
    when (not (contains edges (edge_name_in demanded i))) (transitive_implemented_interfaces t viaEdge (demandedFirst + i) ∷ [])

-- 8 per edge of the interface
unfoldable pub transitive_edges : (w : List ℕ) (t : ℕ) (edges : List ℕ) (viaEdge interfaceType : ℕ) → List Record
transitive_edges w t edges viaEdge interfaceType =
    each (transitive_edge t edges viaEdge (edges_start w interfaceType) (edges_of w interfaceType)) (edge_rows (edges_of w interfaceType))

-- The five loops over the edges: 3; 8
unfoldable pub implements_records : (w : List ℕ) (t edgesFirst : ℕ) (edges : List ℕ) → List Record
implements_records w t edgesFirst edges =
    each (undefined_edge w t edgesFirst edges) (edge_rows edges) ++ defined_edges (transitive_edges w t edges) w edgesFirst edges

-- 9; 10; 11 to 13
unfoldable pub implemented_fields : (w : List ℕ) (t edgesFirst : ℕ) (edges : List ℕ) (fieldsFirst : ℕ) (fields : List ℕ) → List Record
implemented_fields w t edgesFirst edges fieldsFirst fields =
    (defined_edges (λ viaEdge. interface_fields (missing_field t fields viaEdge) w) w edgesFirst edges
    ++ defined_edges (λ viaEdge. interface_fields (field_type_record w t fieldsFirst fields viaEdge) w) w edgesFirst edges)
    ++ defined_edges (λ viaEdge. interface_fields (field_arguments w t fieldsFirst fields viaEdge) w) w edgesFirst edges

-- all five
unfoldable pub edges_records : (w : List ℕ) (t edgesFirst : ℕ) (edges : List ℕ) (fieldsFirst : ℕ) (fields : List ℕ) → List Record
edges_records w t edgesFirst edges fieldsFirst fields =
    implements_records w t edgesFirst edges ++ implemented_fields w t edgesFirst edges fieldsFirst fields
