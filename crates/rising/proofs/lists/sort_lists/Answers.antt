-- The edges are the front, and the members the rest.
use Rattle.std.proofs.Common.{◌≡◌, length, arith}
use Rattle.std.proofs.Math.Seq.{take_at, drop_at, take_all}
use Rattle.table.specs.Layout.{most_listed}
use Rattle.rising.proofs.lists.sort_lists.Goals as goal

pub returns : goal.returns
returns c =
    let edges = c.sort_edges.new.sorted in
    let members = c.sort_members.new.sorted in
    let front : length edges ≡ most_listed = omega arith in
    record {
      rows = c.requires.sound_rows;
      size = omega arith;
      edges = rw (take_at edges members most_listed front) c.sort_edges.ensures;
      members = rw (drop_at edges members most_listed front, take_all most_listed members (omega arith)) c.sort_members.ensures;
    }
