use Rattle.std.proofs.Common.{map, take, sym, subst, ◌∙◌}
use Rattle.mm_field.specs.Vectors.{IsVector, AreVectors, combination, times_matrix}
use Rattle.mm_field.proofs.CombinationLemmas.{IsVector-combination}
use Rattle.mm_matrix.proofs.GrowthLemmas.{row_fits}
use Rattle.mm_matrix.proofs.matrix.Matrix.times.Goals as goal

pub push_row-requires : goal.push_row-requires
push_row-requires c =
    let m = c.args.self.now in
    let o = c.args.other.now in
    row_fits m.f o.cols c.loop-i.product (map (times_matrix m.f o.cols o.rows) (take c.loop-i.i m.rows)) c.deref.result.now c.loop-i.invariant
    (subst (λ v. IsVector m.f o.cols v) (sym (c.deref.ensures.value ∙ c.in_ok-sum.ensures))
    (subst (λ g. IsVector m.f o.cols (combination g o.cols c.row.result.now o.rows)) (sym c.requires.field)
    (IsVector-combination m.f o.cols c.row.result.now o.rows (subst (λ g. AreVectors g o.cols o.rows) c.requires.field c.rows.ensures.each))))
