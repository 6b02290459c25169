use Rattle.std.proofs.Common.{◌≡◌, ◌==◌, true, length, take}
use Rattle.std.specs.List.{list_all}
use Rattle.mm_ops.proofs.op.has_shape.Given as goal

abbrev pub invariant-loop-k : goal.invariant-loop-k
invariant-loop-k l = list_all (λ v. length v == l.r) (take l.k l.g) ≡ true
