use Rattle.std.proofs.Common.{ℕ, ◌≡◌, ◌<◌, ◌≤◌, get_or}
use Rattle.mm_field.specs.declared.Field.TheVariants.{Five}
use Rattle.mm_field.specs.Digits.{plus, times}
use Rattle.mm_field.proofs.lanes.add_five.Given as goal

abbrev pub invariant-loop-i : goal.invariant-loop-i
invariant-loop-i l = record {
  done : (k : ℕ) → k < l.i → get_or l.y k 0 ≡ plus Five (get_or l.initial.y k 0) (times Five l.c (get_or l.x k 0));
  rest : (k : ℕ) → l.i ≤ k → get_or l.y k 0 ≡ get_or l.initial.y k 0;
}
