use Rattle.std.proofs.Common.{◌≡◌}
use Rattle.mm_states.specs.Cells.{grid_answer, ForgetsIn}
use Rattle.mm_states.proofs.grid.copy_row.Given as goal

abbrev pub invariant-loop-right : goal.invariant-loop-right
invariant-loop-right l = ForgetsIn (grid_answer l.old.width l.old.cells.items) (grid_answer l.new.width l.new.cells.items) × (l.new.width ≡ l.fn.new.width)
