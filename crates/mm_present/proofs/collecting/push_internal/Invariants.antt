use Rattle.std.proofs.Common.{◌≡◌, ◌≤◌, ◌+◌, ◌-◌, map, reverse, ◌++◌}
use Rattle.std.specs.List.{range_with_len}
use Rattle.mm_present.specs.Joining.{join_row, widened}
use Rattle.mm_present.proofs.collecting.push_internal.Given as goal

abbrev pub invariant-loop-k : goal.invariant-loop-k
invariant-loop-k l = record {
  low : l.k ≤ l.op.op.c;
  rows : map (λ r. r.items) l.internal.items ≡ map (λ r. r.items) l.initial.internal.items
      ++ reverse (map (widened l.fn.before l.after) (map (join_row l.left l.right) (range_with_len (l.op.op.t3 + l.k) (l.op.op.c - l.k))));
}
