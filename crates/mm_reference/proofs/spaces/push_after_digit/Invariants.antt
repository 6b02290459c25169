use Rattle.std.proofs.Common.{◌≡◌, ◌∷◌, ◌++◌, map, take}
use Rattle.mm_reference_meaning.specs.Rows.{rows_of}
use Rattle.mm_reference.proofs.spaces.push_after_digit.Given as goal

abbrev pub invariant-loop-vector : goal.invariant-loop-vector
invariant-loop-vector l = rows_of l.out.items ≡ rows_of l.initial.out.items ++ map (λ v. l.first ∷ v) (rows_of (take l.vector-index l.vectors))
