-- The invariant: the stops of the blocks from k on are found, and `next` is the stop from `end` on, where block k would start or the text ends.
use Rattle.std.proofs.Common.{◌≡◌, ◌+◌, ◌*◌, ◌≤◌, ◌<◌, length}
use Rattle.names.specs.Stops.{Stop}
use Rattle.names.proofs.StopLaws.{StopsFrom}
use Rattle.names.proofs.stops.find_stops.Given as goal

abbrev pub invariant-loop-k : goal.invariant-loop-k
invariant-loop-k l =
    record {
      block : (l.end ≤ length l.text) × (l.end ≤ 64 * l.k) × (64 * l.k < l.end + 64);
      size : length l.stops ≡ 1024;
      stop : Stop l.text l.end l.next;
      found : StopsFrom l.text l.stops l.k;
    }
