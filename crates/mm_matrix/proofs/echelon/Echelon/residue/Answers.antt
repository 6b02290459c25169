use Rattle.std.proofs.Common.{ℕ, map, sym, subst}
use Rattle.std.specs.Prelude.{IfOk}
use Rattle.mm_field.specs.Vectors.{IsVector}
use Rattle.mm_matrix.specs.MatrixValue.{MatrixValue}
use Rattle.mm_matrix.specs.Residues.{IsResidue, IsResidueBy}
use Rattle.mm_matrix.proofs.RowLemmas.{digits_of}
use Rattle.mm_matrix.proofs.FreeLemmas.{residue_by_pivots}
use Rattle.mm_matrix.proofs.echelon.Echelon.residue.Goals as goal

pub returns : goal.returns
returns c =
    let f = c.self.inside.field in
    let n = c.self.inside.cols in
    let rows = map digits_of c.self.inside.rows.items in
    let ks = c.self.inside.leads.items in
    let v = c.args.row.now in
    let hv : IsVector f n v = subst (λ (m : MatrixValue). IsVector m.f m.cols v) (sym c.self.view_is) c.requires in
    subst (λ (m : MatrixValue). IfOk c.residue.result (λ rest. IsResidueBy m v rest.items)) c.self.view_is
    (residue_by_pivots f n rows ks v c.self.invariant c.residue.result
    (subst (λ (k : ℕ). IfOk c.residue.result (λ rest. IsResidue f k rows ks v rest.items)) hv.len c.residue.ensures))
