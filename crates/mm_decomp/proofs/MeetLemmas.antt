-- The meet of two spans by rows that span it.
use Rattle.std.proofs.Common.{ℕ, ◌≡◌, ◌↔◌, ◌&&◌, List}
use Rattle.std.proofs.lemmas.Bool.{and_parts, and_from}
use Rattle.mm_field.specs.declared.Field.{Field}
use Rattle.mm_field.specs.Vectors.{IsVector, AreVectors, InSpan}
use Rattle.mm_linear.specs.Decide.{is_in_span}
use Rattle.mm_linear.specs.ReducedEchelon.{reduced_basis}
use Rattle.mm_linear.proofs.MeetTest.{is_in_span_decides}
use Rattle.mm_linear.proofs.SubspaceTests.{subspace-of_rows}
use Rattle.mm_decomp.specs.Meets.{meet}

pub meet_of_rows : (f : Field) (n : ℕ) (A B rows : List (List ℕ)) → AreVectors f n A → AreVectors f n B → AreVectors f n rows →
    ((v : List ℕ) → IsVector f n v → InSpan f n rows v ↔ (InSpan f n A v × InSpan f n B v)) → meet f n A B ≡ reduced_basis f n rows
unfolding meet
meet_of_rows f n A B rows hA hB hr both =
    subspace-of_rows f n (λ v. is_in_span f n A v && is_in_span f n B v) rows hr (λ v hv. (
      (λ p.
          let q = (both v hv).0 p in
          and_from (is_in_span f n A v) (is_in_span f n B v) ((is_in_span_decides f n A v hA hv).1 q.0) ((is_in_span_decides f n B v hB hv).1 q.1)),
      (λ t.
          let q = and_parts (is_in_span f n A v) (is_in_span f n B v) t in
          (both v hv).1 ((is_in_span_decides f n A v hA hv).0 q.0, (is_in_span_decides f n B v hB hv).0 q.1)),
    ))
