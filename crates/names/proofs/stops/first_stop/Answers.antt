use Rattle.std.proofs.Common.{◌≡◌, true, false, rules, tests}
use Rattle.std.proofs.lemmas.Iterator.{IsFirst-from_position, YieldsList-from_slice}
use Rattle.names.specs.Count.{part}
use Rattle.names.specs.Names.{continues_name}
use Rattle.names.proofs.StopLaws.{stop_found, stop_behind}
use Rattle.names.proofs.stops.first_stop.Goals as goal

pub returns-in-Some : goal.returns-in-Some
returns-in-Some c =
    let first =
    IsFirst-from_position _ _ _ (λ b. continues_name b ≡ false) (λ b. continues_name b ≡ true) c.position.ensures.ran
    (YieldsList-from_slice (part c.args.text.now c.args.start c.args.end) cc) (λ x q k. search (rules, tests)) (λ x q k. search (rules, tests)) in
    stop_found _ _ _ c.requires.start_le_end.0 c.requires.start_le_end.1 _ (rw c.in-Some.is at first)

pub returns-in-None : goal.returns-in-None
returns-in-None c =
    let first =
    IsFirst-from_position _ _ _ (λ b. continues_name b ≡ false) (λ b. continues_name b ≡ true) c.position.ensures.ran
    (YieldsList-from_slice (part c.args.text.now c.args.start c.args.end) cc) (λ x q k. search (rules, tests)) (λ x q k. search (rules, tests)) in
    stop_behind _ _ _ c.requires.start_le_end.0 c.requires.start_le_end.1 _ (rw c.in-None.is at first) c.requires.stop
