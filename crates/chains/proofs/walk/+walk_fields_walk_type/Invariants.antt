-- The cycle of calls of `walk_fields` and `walk_type` ends, as the types that are not entered fall.
-- The measure is twice the number of types that are left to enter, and one more for `walk_type`: it calls `walk_fields` before it
-- enters any, and `walk_fields` marks a type before it calls `walk_type`.
-- The invariant of the loop is a `Turn`: how the search went on to the field f and the marks in the work words.
use Rattle.std.proofs.Common.{◌≡◌, ◌+◌, ◌*◌}
use Rattle.table.specs.Layout.{type_count}
use Rattle.links.specs.Fields.{chain_graph}
use Rattle.chains.specs.Search.{free}
use Rattle.chains.proofs.Turns.{Turn}
use Rattle.chains.proofs.walk.+walk_fields_walk_type.Given as goal

abbrev pub decreases-walk_fields : goal.decreases-walk_fields
decreases-walk_fields l = 2 * free (type_count l.links.now.words.now) l.work.now

abbrev pub decreases-walk_type : goal.decreases-walk_type
decreases-walk_type l = 2 * free (type_count l.links.now.words.now) l.work.now + 1

abbrev pub invariant-walk_fields-loop-f : goal.invariant-walk_fields-loop-f
invariant-walk_fields-loop-f l = (l.out ≡ l.initial.out) × Turn (chain_graph l.links.words.now) l.t.0 l.f-end l.initial.f l.initial.work l.work l.f
