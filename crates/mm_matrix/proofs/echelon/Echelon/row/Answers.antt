use Rattle.std.proofs.Common.{◌<◌, length, ap, sym, subst, arith, List, ℕ}
use Rattle.std.proofs.lemmas.List.{length-map}
use Rattle.mm_field.specs.Vectors.{IsVector}
use Rattle.mm_matrix.specs.MatrixValue.{MatrixValue}
use Rattle.mm_matrix.proofs.RowLemmas.{digits_of, item_vector}
use Rattle.mm_matrix.proofs.echelon.Echelon.row.Goals as goal

pub returns-clause-vector : goal.returns-clause-vector
returns-clause-vector c =
    let e = ap (λ (m : MatrixValue). length m.rows) c.self.view_is in
    let l : c.args.i < length c.self.inside.rows.items = omega (arith, length-map c.self.inside.rows.items digits_of, e) in
    let v = item_vector c.self.inside.field c.self.inside.cols c.self.inside.rows.items c.self.invariant.each c.args.i c.index.result.now l c.index.ensures in
    subst (λ (m : MatrixValue). IsVector m.f m.cols c.deref.result.now) c.self.view_is
    (subst (λ (u : List ℕ). IsVector c.self.inside.field c.self.inside.cols u) (sym c.deref.ensures.value) v)
