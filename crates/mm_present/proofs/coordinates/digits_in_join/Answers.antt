use Rattle.std.proofs.Common.{map, take, sym, subst, ◌∙◌}
use Rattle.mm_field.specs.Vectors.{IsVector}
use Rattle.mm_linear.specs.Coordinates.{completed}
use Rattle.mm_linear.proofs.BasisLemmas.{completed_is_basis}
use Rattle.mm_linear.proofs.CoordinateLemmas.{IsVector-coordinates}
use Rattle.mm_logic.specs.Operator.{row_length}
use Rattle.mm_logic.specs.PresentMatrix.{column_digits}
use Rattle.mm_present.proofs.GrowLemmas.{row_fits}
use Rattle.mm_present.proofs.coordinates.digits_in_join.Goals as goal

pub push_row-requires : goal.push_row-requires
push_row-requires c =
    let op = c.args.op.now in
    let r = row_length op.op in
    let valid = c.field.ensures.valid.third in
    let b = completed_is_basis op.f r op.op.g3 valid.rows valid.independent in
    row_fits op.f r c.loop-k.rows (map (column_digits op.f op.op) (take c.loop-k.k c.args.g.now)) c.deref.result.now c.loop-k.invariant
    (subst (λ v. IsVector op.f r v) (sym (c.deref.ensures.value ∙ c.in_ok-row.ensures))
    (subst (λ n. IsVector op.f n (column_digits op.f op.op c.row.result)) b.count (IsVector-coordinates op.f r (completed op.f r op.op.g3) c.row.result)))
