use Rattle.std.proofs.Common.{◌≡◌, length}
use Rattle.mm_decomp.specs.BuildStates.{IsKept, parts_from}
use Rattle.mm_decomp.specs.BuildTexts.{left}
use Rattle.mm_decomp.proofs.read.read_lines.Given as goal

abbrev pub invariant-lines : goal.invariant-lines
invariant-lines l = record {
  kept : IsKept l.state;
  goes : parts_from l.initial.state (left l.initial.framer) ≡ parts_from l.state (left l.framer);
}

abbrev pub decreases-lines : goal.decreases-lines
decreases-lines l = length (left l.framer)
