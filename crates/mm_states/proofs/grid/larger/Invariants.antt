use Rattle.std.proofs.Common.{◌≡◌}
use Rattle.mm_states.specs.Cells.{grid_answer, ForgetsIn}
use Rattle.mm_states.proofs.grid.larger.Given as goal

abbrev pub invariant-loop-left : goal.invariant-loop-left
invariant-loop-left l = ForgetsIn (grid_answer l.old.width l.old.cells.items) (grid_answer l.new.width l.new.cells.items) × (l.new.width ≡ l.fn.width)
