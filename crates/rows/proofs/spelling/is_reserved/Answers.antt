-- The bytes of the name, by the layout, are those that the definition asks.
use borrow.Author.Rules.{rules}
use mathlib.Core.Path.{sym, ◌∙◌}
use Rattle.rows.proofs.SpellingLaws.{reserved_bytes}
use Rattle.rows.proofs.spelling.is_reserved.Goals as goal

pub name_bytes-requires : goal.name_bytes-requires
name_bytes-requires c = record { laid = c.requires.laid; n_lt_names = search rules; n_in_bounds = c.requires.spelled _ (search rules) }

pub returns : goal.returns
returns c = c.starts_reserved.ensures ∙ sym (reserved_bytes _ _ _ _ c.requires.laid _ c.name_bytes.ensures)
