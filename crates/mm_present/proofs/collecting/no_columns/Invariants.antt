use Rattle.std.proofs.Common.{◌≡◌, map, []}
use Rattle.std.specs.List.{range_with_len}
use Rattle.mm_present.proofs.collecting.no_columns.Given as goal

abbrev pub invariant-loop : goal.invariant-loop
invariant-loop l = l.rows ≡ record { f = l.fn.f; cols = 0; rows = map (λ k. []) (range_with_len 0 l.counter) }
