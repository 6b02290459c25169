use Rattle.std.proofs.Common.{◌≡◌, ◌+◌, length, map}
use Rattle.mm_present.proofs.StackLemmas.{IsStacking}
use Rattle.mm_present.proofs.present.stack.Given as goal

abbrev pub invariant-loop : goal.invariant-loop
invariant-loop l = record {
  count : length l.rows.items + l.counter ≡ length l.initial.rows.items;
  stacking : IsStacking l.initial.matrix (map (λ r. r.items) l.initial.rows.items) l.matrix (map (λ r. r.items) l.rows.items);
}
