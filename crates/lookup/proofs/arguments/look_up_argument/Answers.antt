-- The cell of the name tells what the walk through the arguments finds.
use mathlib.Core.Path.{sym, ◌∙◌}
use borrow.Author.Tests.{eqb-false}
use Rattle.lookup.proofs.CellLaws.{argument_told}
use Rattle.lookup.proofs.arguments.look_up_argument.Goals as goal

pub returns-else-is_empty : goal.returns-else-is_empty
returns-else-is_empty c = c.found_in.ensures ∙ argument_told _ _ c.requires (eqb-false _ _ (sym c.is_empty.ensures ∙ c.if-is_empty.false)) _
