use Rattle.std.proofs.Common.{take, sum_by}
use Rattle.mm_logic.specs.Occurrence.{own_cells, distinct}
use Rattle.mm_reference_meaning.specs.Formulas.{formula_of}
use Rattle.mm_reference.specs.Sizes.{IsCount}
use Rattle.mm_reference.specs.Values.{seen_of}
use Rattle.mm_reference.proofs.sizes.distinct_cells.Given as goal

abbrev pub invariant-loop-i : goal.invariant-loop-i
invariant-loop-i l = IsCount (sum_by (own_cells (formula_of l.formula)) (distinct (seen_of (take l.i l.values)))) l.sum
