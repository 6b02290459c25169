use Rattle.std.proofs.Common.{◌≡◌, get_or, map, [], ◌∷◌}
use Rattle.std.specs.List.{range_with_len}
use Rattle.mm_present.proofs.collecting.column.Given as goal

abbrev pub invariant-loop-k : goal.invariant-loop-k
invariant-loop-k l = l.rows ≡ record { f = l.fn.f; cols = 1; rows = map (λ k. get_or l.v k 0 ∷ []) (range_with_len 0 l.k) }
