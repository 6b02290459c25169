use Rattle.std.proofs.Common.{◌≡◌, ◌+◌, List, ℕ, length, ap, ap₂, subst, ◌∙◌}
use Rattle.mm_field.specs.declared.Field.{Field}
use Rattle.mm_linear.specs.ReducedEchelon.{reduced_basis}
use Rattle.mm_logic.specs.Operator.{row_length}
use Rattle.mm_matrix.specs.MatrixValue.{MatrixValue}
use Rattle.mm_matrix.specs.Residues.{AreReduced}
use Rattle.mm_present.specs.Bases.{augmented}
use Rattle.mm_present.proofs.GrowLemmas.{matrix}
use Rattle.mm_present.proofs.CoordinateLemmas.{pivots_found}
use Rattle.mm_present.proofs.coordinates.Basis.of.Goals as goal

-- the reduced rows, by what the calls gave
reduced_is : (f own : Field) (r d : ℕ) (g own_g : List (List ℕ)) (rows reduced : MatrixValue) → own ≡ f → d ≡ r → own_g ≡ g →
    rows ≡ matrix own (d + length own_g) (augmented own own_g) → reduced ≡ matrix rows.f rows.cols (reduced_basis rows.f rows.cols rows.rows) →
    reduced ≡ matrix f (r + length g) (reduced_basis f (r + length g) (augmented f g))
reduced_is f own r d g own_g rows reduced ef er eg h e =
    e ∙ ap (λ (m : MatrixValue). matrix m.f m.cols (reduced_basis m.f m.cols m.rows))
    (h ∙ ap (λ k. matrix k (d + length own_g) (augmented k own_g)) ef ∙ ap₂ (λ k vs. matrix f (k + length vs) (augmented f vs)) er eg)

pub free_columns-requires : goal.free_columns-requires
free_columns-requires c =
    let op = c.args.op.now in
    let r = row_length op.op in
    let g = op.op.g3 in
    let n = r + length g in
    let is : c.in_ok-reduced.reduced ≡ matrix op.f n (reduced_basis op.f n (augmented op.f g)) =
    reduced_is op.f c.field.result (row_length op.op) c.dimension.result op.op.g3 c.g3.result.now c.in_ok-rows.rows c.in_ok-reduced.reduced c.field.ensures.field
    c.dimension.ensures.value c.g3.ensures c.in_ok-rows.ensures c.in_ok-reduced.ensures.rows in
    pivots_found op.f r g c.in_ok-reduced.reduced.rows c.leads.result.now c.dimension.ensures.valid.third.rows (ap (λ (m : MatrixValue). m.rows) is)
    (subst (λ (m : MatrixValue). AreReduced m.f m.cols c.in_ok-reduced.reduced.rows c.leads.result.now) is c.leads.ensures)

pub returns : goal.returns
returns c =
    let op = c.args.op.now in
    record {
      reduced =
          reduced_is op.f c.field.result (row_length op.op) c.dimension.result op.op.g3 c.g3.result.now c.in_ok-rows.rows c.in_ok-reduced.reduced c.field.ensures.field
          c.dimension.ensures.value c.g3.ensures c.in_ok-rows.ensures c.in_ok-reduced.ensures.rows;
      free = c.in_ok-free.ensures;
    }
