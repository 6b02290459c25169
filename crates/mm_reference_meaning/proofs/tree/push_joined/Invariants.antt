use Rattle.std.proofs.Common.{◌≡◌, ◌++◌, map, length, take}
use Rattle.mm_reference_meaning.specs.Rows.{rows_of}
use Rattle.mm_reference_meaning.specs.Trees.{joined_column}
use Rattle.mm_reference_meaning.proofs.tree.push_joined.Given as goal

abbrev pub invariant-loop-column : goal.invariant-loop-column
invariant-loop-column l =
    rows_of l.out.items
    ≡ rows_of l.initial.out.items
    ++ map (joined_column l.f (length l.basis) (rows_of l.basis) (rows_of l.g) l.t l.before l.after) (rows_of (take l.column-index l.columns))
