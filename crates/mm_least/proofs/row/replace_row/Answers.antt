use Rattle.std.proofs.Common.{rules, ◌≡◌, arith, true, false, int_lt, w64, SFits, refl}
use Rattle.std.proofs.lemmas.Int.{to_z-of_z}
use Rattle.mm_least.proofs.RowLemmas.{replaced, stays}
use Rattle.mm_least.proofs.row.replace_row.Goals as goal

pub returns-then-row-index : goal.returns-then-row-index
returns-then-row-index c =
    let f : SFits w64 c.args.row.weight = search rules in
    let h : SFits w64 c.index.result.now.weight = search rules in
    let less : int_lt c.args.row.weight c.index.result.now.weight ≡ true = grind (arith, to_z-of_z) in
    replaced c.args.row c.index.result.now c.args.rows.now.items c.args.place c.requires c.index.ensures _ _ c.push_row.result less c.remove.ensures.items c.push_row.ensures

pub returns-else-row-index : goal.returns-else-row-index
returns-else-row-index c =
    let f : SFits w64 c.args.row.weight = search rules in
    let h : SFits w64 c.index.result.now.weight = search rules in
    let more : int_lt c.args.row.weight c.index.result.now.weight ≡ false = grind (arith, to_z-of_z) in
    (stays c.args.row c.index.result.now c.args.rows.now.items c.args.place c.requires c.index.ensures more, refl)
