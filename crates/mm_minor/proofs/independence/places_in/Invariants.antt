use Rattle.std.proofs.Common.{◌≡◌}
use Rattle.std.specs.List.{items_where_true, range_with_len}
use Rattle.mm_minor.specs.MinorFormula.{subset}
use Rattle.mm_minor.proofs.SubsetLemmas.{after_digits}
use Rattle.mm_minor.proofs.independence.places_in.Given as goal

abbrev pub invariant-loop-i : goal.invariant-loop-i
invariant-loop-i l = record {
  chosen : l.places.items ≡ items_where_true (subset l.i l.s) (range_with_len 0 l.i);
  left : l.rest ≡ after_digits l.i l.s;
}
