use Rattle.std.proofs.Common.{◌<◌, All, take}
use Rattle.mm_reference_meaning.proofs.validity.are_few.Given as goal

abbrev pub invariant-loop-k : goal.invariant-loop-k
invariant-loop-k l = All (λ k. k < 16) (take l.k-index l.slots)
