use Rattle.std.proofs.Common.{◌≡◌, ◌+◌, ◌-◌, arith, rules}
use Rattle.names.proofs.StopLaws.{stop_end, stops_more}
use Rattle.names.proofs.stops.find_stops.Goals as goal

pub loop-k-init : goal.loop-k-init
loop-k-init c =
    record {
      block = (omega arith, omega (arith, c.div_ceil-k.ensures), omega (arith, c.div_ceil-k.ensures));
      size = c.requires.1;
      stop = stop_end _;
      found = λ j h b. absurd (omega (arith, c.div_ceil-k.ensures));
    }

pub loop-k-preserved : goal.loop-k-preserved
loop-k-preserved c =
    let k = c.loop-k.k - 1 in
    let next : c.loop-k.k ≡ k + 1 = omega arith in
    record {
      block = (omega arith, omega arith, omega arith);
      size = search rules;
      stop = c.first_stop-next.ensures;
      found = stops_more _ c.loop-k.stops k c.first_stop-next.result (omega arith) c.first_stop-next.ensures (rw next at c.loop-k.invariant.found);
    }
