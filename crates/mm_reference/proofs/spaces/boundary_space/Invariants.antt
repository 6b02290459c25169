use Rattle.mm_logic.specs.BoundarySpaces.{boundary_space}
use Rattle.mm_linear.specs.ReducedEchelon.{IsLeftBasis}
use Rattle.mm_reference_meaning.specs.Rows.{rows_of}
use Rattle.mm_reference.specs.Spaces.{IsSpace}
use Rattle.mm_reference.proofs.ReducedLemmas.{IsBefore}
use Rattle.mm_reference.proofs.spaces.boundary_space.Given as goal

abbrev pub invariant-loop-k : goal.invariant-loop-k
invariant-loop-k l =
    (sp : IsSpace l.fn.f l.t (rows_of l.space.items))
    (known : IsLeftBasis l.fn.f l.t (rows_of l.space.items) (boundary_space l.fn.f l.t l.m (rows_of l.columns))) →
    IsBefore l.fn.f l.t (rows_of l.space.items) (boundary_space l.fn.f l.t l.m (rows_of l.columns)) sp known l.k (rows_of l.rows.items)
