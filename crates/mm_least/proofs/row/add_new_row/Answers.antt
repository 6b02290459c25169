use Rattle.std.proofs.Common.{length, [], ◌∷◌, ap, ◌∙◌, arith, length-append}
use Rattle.mm_least.proofs.RowLemmas.{put_none, adds_last}
use Rattle.mm_least.proofs.row.add_new_row.Goals as goal

pub returns-then-room-eq0 : goal.returns-then-room-eq0
returns-then-room-eq0 c = λ e.
    let long = ap length (put_none c.args.row c.args.rows.now.items c.requires) ∙ length-append c.args.rows.now.items (c.args.row ∷ []) in
    let none = c.if-room-eq0.true in
    omega (arith, long, none)

pub returns : goal.returns
returns c = adds_last c.args.row _ _ c.args.room.now c.push_row.result c.requires c.if-room-eq0.false c.push_row.ensures
