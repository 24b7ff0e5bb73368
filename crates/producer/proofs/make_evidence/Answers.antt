-- `make_evidence`: the passes begin with the work words cleared, and in the end they are cleared again.
use mathlib.Core.Path.{◌∙◌}
use Rattle.producer.proofs.Assemble.{cleared_last}
use Rattle.producer.proofs.make_evidence.Goals as goal

pub returns-clause-work_after : goal.returns-clause-work_after
returns-clause-work_after c =
    c.clear-2.ensures ∙ cleared_last c.requires.sound_rows c.requires.rooms c.clear.ensures c.fill_all.ensures.cleared
