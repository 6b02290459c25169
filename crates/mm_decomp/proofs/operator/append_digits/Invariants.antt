use Rattle.std.proofs.Common.{◌≡◌, ◌+◌, ◌++◌, map, take}
use Rattle.mm_decomp.proofs.operator.append_digits.Given as goal

abbrev pub invariant-loop-d : goal.invariant-loop-d
invariant-loop-d l = l.text.items ≡ l.fn.text.items ++ map (λ x. 48 + x) (take l.d-index l.digits)
