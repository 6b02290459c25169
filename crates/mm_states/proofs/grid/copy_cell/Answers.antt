use Rattle.std.proofs.Common.{sym}
use Rattle.mm_states.specs.Cells.{grid_answer}
use Rattle.mm_states.proofs.GridLemmas.{copied}
use Rattle.mm_states.proofs.grid.copy_cell.Goals as goal

pub returns-in-Some-clause-after : goal.returns-in-Some-clause-after
returns-in-Some-clause-after c =
    let old = c.args.old.now in
    let mid = c.args.new.now in
    let new = c.put.new.self in
    copied (grid_answer old.width old.cells.items) (grid_answer mid.width mid.cells.items) (grid_answer new.width new.cells.items) c.args.left c.args.right c.in-Some.id
    c.requires.before (sym c.in-Some.ensures.answer) c.put.ensures.others
