use Rattle.std.proofs.Common.{◌≡◌, length}
use Rattle.mm_linear.specs.Coordinates.{digit_below}
use Rattle.mm_reference_meaning.specs.Rows.{rows_of}
use Rattle.mm_reference_meaning.proofs.combinations.first_coordinate.Given as goal

abbrev pub invariant-loop-c : goal.invariant-loop-c
invariant-loop-c l = l.found ≡ digit_below l.f (length l.v) (rows_of l.others) l.first l.v l.c
