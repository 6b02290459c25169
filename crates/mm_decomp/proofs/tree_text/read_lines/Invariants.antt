use Rattle.std.proofs.Common.{◌≡◌, length}
use Rattle.mm_header.specs.State.HeaderStates.{IsKeptAfter}
use Rattle.mm_decomp.specs.BuildTexts.{left}
use Rattle.mm_decomp.specs.GivenTrees.{tree_from}
use Rattle.mm_decomp.proofs.tree_text.read_lines.Given as goal

abbrev pub invariant-lines : goal.invariant-lines
invariant-lines l = record {
  kept : IsKeptAfter l.step;
  goes : tree_from l.initial.step (left l.initial.framer) ≡ tree_from l.step (left l.framer);
}

abbrev pub decreases-lines : goal.decreases-lines
decreases-lines l = length (left l.framer)
