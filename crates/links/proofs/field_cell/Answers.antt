-- `field_cell`: the cell of what the lookup found.
use borrow.Author.Rules.{rules}
use Rattle.links.proofs.LinkLaws.{cell_none, cell_some}
use Rattle.links.proofs.field_cell.Goals as goal

pub returns-in_default : goal.returns-in_default
returns-in_default c = cell_none c.requires.indexed.rows.laid _ _ c.field_target.ensures c.in_default.is

pub overflow_add-result : goal.overflow_add-result
overflow_add-result c = let s = cell_some c.requires.indexed.rows.laid _ _ _ c.field_target.ensures c.in-Some.is in search (rules, s)

pub overflow_cast-result : goal.overflow_cast-result
overflow_cast-result c = let s = cell_some c.requires.indexed.rows.laid _ _ _ c.field_target.ensures c.in-Some.is in search (rules, s)

pub returns : goal.returns
returns c = (cell_some c.requires.indexed.rows.laid _ _ _ c.field_target.ensures c.in-Some.is).1
