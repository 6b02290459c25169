use Rattle.mm_formula.proofs.SlotLemmas.{scoped_sorted}
use Rattle.mm_formula.proofs.scope.slots_are_sorted.Goals as goal

pub returns : goal.returns
returns c = scoped_sorted
