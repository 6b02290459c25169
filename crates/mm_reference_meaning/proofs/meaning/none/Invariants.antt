use Rattle.std.proofs.Common.{◌≡◌}
use Rattle.mm_logic.specs.Marks as marks_spec
use Rattle.mm_reference_meaning.proofs.meaning.none.Given as goal

abbrev pub invariant-loop : goal.invariant-loop
invariant-loop l = l.tests.items ≡ marks_spec.none l.counter
