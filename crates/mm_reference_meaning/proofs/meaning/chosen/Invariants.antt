use Rattle.std.proofs.Common.{◌≡◌, take}
use Rattle.std.specs.List.{items_where_true}
use Rattle.mm_reference_meaning.specs.Rows.{rows_of}
use Rattle.mm_reference_meaning.proofs.meaning.chosen.Given as goal

abbrev pub invariant-loop-i : goal.invariant-loop-i
invariant-loop-i l = rows_of l.kept.items ≡ items_where_true (take l.i l.set) (rows_of (take l.i l.columns))
