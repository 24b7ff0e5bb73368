-- The first byte is read by itself; the others are what `all_continue` says.
use Rattle.std.proofs.Common.{rules}
use Rattle.names.proofs.StopLaws.{part_empty, part_start, part_rest}
use Rattle.names.proofs.stops.is_name.Goals as goal

pub returns-then-start-end : goal.returns-then-start-end
returns-then-start-end c = search (rules, part_empty)

pub returns-then-starts_name : goal.returns-then-starts_name
returns-then-starts_name c = search (rules, part_rest)

pub returns-else-starts_name : goal.returns-else-starts_name
returns-else-starts_name c = search (rules, part_start)
