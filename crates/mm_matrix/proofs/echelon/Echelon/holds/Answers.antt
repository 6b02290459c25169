use Rattle.std.proofs.Common.{ℕ, ◌↔◌, map, sym, subst}
use Rattle.std.specs.Bool.{IsTrue}
use Rattle.std.specs.Option.{MatchOption}
use Rattle.mm_field.specs.Vectors.{IsVector, InSpan}
use Rattle.mm_matrix.specs.declared.elimination.NewRow.{NewRow}
use Rattle.mm_matrix.specs.MatrixValue.{MatrixValue}
use Rattle.mm_matrix.specs.Residues.{AddsAs}
use Rattle.mm_matrix.proofs.RowLemmas.{digits_of}
use Rattle.mm_matrix.proofs.ReducedLemmas.{no_new_decides}
use Rattle.mm_matrix.proofs.echelon.Echelon.holds.Goals as goal

pub returns : goal.returns
returns c =
    let f = c.self.inside.field in
    let n = c.self.inside.cols in
    let rows = map digits_of c.self.inside.rows.items in
    let ks = c.self.inside.leads.items in
    let v = c.args.row.now in
    let hv : IsVector f n v = subst (λ (m : MatrixValue). IsVector m.f m.cols v) (sym c.self.view_is) c.requires in
    let new : MatchOption c.in_ok-new.new (InSpan f n rows v) (λ (w : NewRow). AddsAs f n w.lead w.digits.items rows ks v) =
    subst (λ (k : ℕ). MatchOption c.in_ok-new.new (InSpan f k rows v) (λ (w : NewRow). AddsAs f k w.lead w.digits.items rows ks v)) hv.len c.in_ok-new.ensures in
    subst (λ (m : MatrixValue). IsTrue c.is_none.result ↔ InSpan m.f m.cols m.rows v) c.self.view_is
    (no_new_decides f n rows ks v c.self.invariant c.in_ok-new.new new c.is_none.result c.is_none.ensures)
