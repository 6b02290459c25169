use Rattle.std.proofs.Common.{◌∙◌, ◌≡◌, Some, length, ◌-◌}
use Rattle.std.specs.List.{slice_get}
use Rattle.mm_checker.proofs.RowLemmas.{follows_last}
use Rattle.mm_checker.proofs.nodes.follows.Goals as goal

pub returns-in-Some : goal.returns-in-Some
returns-in-Some c = λ h.
    let v = c.in-Some.ensures.value in
    let e : slice_get c.args.rows.now (length c.args.rows.now - 1) ≡ Some c.in-Some.last.now = cc in
    c.is_earlier.ensures ∙ follows_last c.args.rows.now c.in-Some.last.now c.args.x c.args.y h e
