-- The cells tell the own fields, or there are none: either helps.
use mathlib.Core.Path.{refl}
use Rattle.lookup.proofs.CellLaws.{fields_named, told_helps, none_helps}
use Rattle.implementing.proofs.interface.validate_edges.Goals as goal

pub validate_each_rule-requires : goal.validate_each_rule-requires
validate_each_rule-requires c =
    record { own_edges = c.requires.own_edges; own_fields = record { part = c.requires.field_part; helped = none_helps _ _ } }

pub index_fields-requires : goal.index_fields-requires
index_fields-requires c = record { fields_named = fields_named c.args.table.now.findable.indexed.rows c.requires.field_part; cells_value = refl }

pub validate_each_rule-requires-2 : goal.validate_each_rule-requires-2
validate_each_rule-requires-2 c =
    record { own_edges = c.requires.own_edges; own_fields = record { part = c.requires.field_part; helped = told_helps _ c.index_fields.ensures } }
