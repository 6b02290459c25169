use Rattle.std.proofs.Common.{◌<◌, length, map, take, get_or, sym, subst, ◌∙◌, arith}
use Rattle.mm_field.specs.Vectors.{IsVector}
use Rattle.mm_matrix.specs.Columns.{column}
use Rattle.mm_matrix.proofs.ColumnLemmas.{IsVector-column}
use Rattle.mm_matrix.proofs.GrowthLemmas.{row_fits}
use Rattle.mm_matrix.proofs.matrix.Matrix.columns.Goals as goal

pub push_row-requires : goal.push_row-requires
push_row-requires c =
    let m = c.args.self.now in
    let ks = c.args.places.now in
    let k = c.loop-k.k in
    let j = get_or ks k 0 in
    let l : j < m.cols = c.requires k 0 (omega arith) in
    row_fits m.f (length m.rows) c.loop-k.columns (map (column m.rows) (take k ks)) c.deref.result.now c.loop-k.invariant
    (subst (λ v. IsVector m.f (length m.rows) v) (sym (c.deref.ensures.value ∙ c.in_ok-digits.ensures))
    (IsVector-column m.f m.cols j m.rows c.rows.ensures.each l))
