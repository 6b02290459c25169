use Rattle.std.proofs.Common.{take}
use Rattle.mm_field.specs.Vectors.{AreVectors}
use Rattle.mm_reference_meaning.specs.Rows.{rows_of}
use Rattle.mm_reference_meaning.proofs.validity.are_vectors.Given as goal

abbrev pub invariant-loop-row : goal.invariant-loop-row
invariant-loop-row l = AreVectors l.f l.r (rows_of (take l.row-index l.rows))
