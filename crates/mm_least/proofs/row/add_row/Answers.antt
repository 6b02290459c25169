use Rattle.std.proofs.Common.{Some, subst}
use Rattle.mm_least.specs.Rows.{IsPlaceIn}
use Rattle.mm_least.proofs.RowLemmas.{adds_in_place}
use Rattle.mm_least.proofs.row.add_row.Goals as goal

pub replace_row-requires : goal.replace_row-requires
replace_row-requires c = subst (λ xs. IsPlaceIn xs c.args.row.id (Some c.in-Some.place)) c.deref.ensures.value c.in-Some.ensures

pub returns-in-Some : goal.returns-in-Some
returns-in-Some c = adds_in_place c.args.row _ _ c.args.room.now c.replace_row.result c.replace_row.ensures
