use Rattle.std.proofs.Common.{◌≡◌, ◌∷◌}
use Rattle.std.specs.List.{items_where_true}
use Rattle.mm_minor.specs.MinorFormula.{contracted, elements, subset}
use Rattle.mm_minor.proofs.SubsetLemmas.{after_digits}
use Rattle.mm_minor.proofs.conditions.variables.Given as goal

abbrev pub invariant-loop-i : goal.invariant-loop-i
invariant-loop-i l = record {
  chosen : l.vars ≡ contracted ∷ items_where_true (subset l.i l.s) (elements l.i);
  left : l.rest ≡ after_digits l.i l.s;
}
