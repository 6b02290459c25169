use Rattle.std.proofs.Common.{◌≤◌, ◌+◌, ◌-◌, [], length}
use Rattle.mm_lines.specs.Places.{Goes, IsPlace, begun}
use Rattle.mm_lines.proofs.place.next_piece.Given as goal

abbrev pub invariant-pieces : goal.invariant-pieces
invariant-pieces l = record {
  place : IsPlace l.bytes l.place;
  goes : Goes l.ended l.bytes l.initial.place [] l.place;
  begun : begun l.initial.place ≤ begun l.place;
}

abbrev pub decreases-pieces : goal.decreases-pieces
decreases-pieces l = length l.bytes + 1 - l.place.start
