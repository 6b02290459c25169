use Rattle.std.proofs.Common.{◌≡◌, ◌<◌, ap₂, subst, ◌∙◌, arith}
use Rattle.mm_field.specs.Vectors.{AreVectors}
use Rattle.mm_matrix.specs.MatrixValue.{MatrixValue}
use Rattle.std.proofs.Common.{◌^◌}
use Rattle.std.specs.Prelude.{MatchOption}
use Rattle.mm_field.specs.Vectors.{IsWithin}
use Rattle.mm_linear.specs.ReducedEchelon.{reduced_basis}
use Rattle.mm_linear.proofs.ReducedEchelonLemmas.{reduced_basis_is}
use Rattle.mm_matrix.specs.Outside.{IsFirstOutside}
use Rattle.mm_present.proofs.CompareLemmas.{outside_is, found_small}
use Rattle.mm_present.proofs.comparison.outside.Goals as goal

pub returns-clause-first : goal.returns-clause-first
returns-clause-first c =
    let rows = c.args.rows.now in
    let others = c.args.others.now in
    let space = c.in_ok-space.space in
    let f = rows.f in
    let n = rows.cols in
    let ef = c.requires.field in
    let en = c.requires.columns in
    let each : AreVectors f n others.rows =
    subst (λ k. AreVectors f k others.rows) en (subst (λ g. AreVectors g others.cols others.rows) ef c.in_ok-space.ensures.span.is_matrix) in
    let made = reduced_basis_is f n others.rows each in
    let reduced : space ≡ record { f = f; cols = n; rows = reduced_basis f n others.rows } =
    c.in_ok-space.ensures.rows ∙ ap₂ (λ g k. record { f = g; cols = k; rows = reduced_basis g k others.rows }) ef en in
    outside_is f n rows.rows others.rows (reduced_basis f n others.rows) c.in_ok-found.found c.rows.ensures.each each made.each made.span
    (subst (λ (s : MatrixValue). MatchOption c.in_ok-found.found (IsWithin s.f s.cols rows.rows s.rows) (λ i. IsFirstOutside s.f s.cols s.rows rows.rows i))
    reduced c.in_ok-found.ensures)

pub returns-clause-small : goal.returns-clause-small
returns-clause-small c =
    let rows = c.args.rows.now in
    let space = c.in_ok-space.space in
    let count = c.rows.ensures.count in
    let fits : c.rows.result < 2 ^ 64 = c.rows.type_inv in
    found_small space.f space.cols space.rows rows.rows c.in_ok-found.found (2 ^ 64) (omega arith) c.in_ok-found.ensures
