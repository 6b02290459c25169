use Rattle.std.proofs.Common.{◌≡◌, ◌∷◌, map, flat_map}
use Rattle.std.specs.List.{range_with_len}
use Rattle.mm_reference_meaning.specs.Rows.{rows_of}
use Rattle.mm_reference.proofs.spaces.after_each_digit.Given as goal

abbrev pub invariant-loop-digit : goal.invariant-loop-digit
invariant-loop-digit l = rows_of l.all.items ≡ flat_map (λ d. map (λ u. d ∷ u) (rows_of l.vectors)) (range_with_len 0 l.digit)
