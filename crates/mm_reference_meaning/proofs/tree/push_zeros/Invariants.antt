use Rattle.std.proofs.Common.{◌≡◌, ◌++◌}
use Rattle.mm_field.specs.Vectors.{zeros}
use Rattle.mm_reference_meaning.proofs.tree.push_zeros.Given as goal

abbrev pub invariant-loop : goal.invariant-loop
invariant-loop l = l.out.items ≡ l.initial.out.items ++ zeros l.counter
