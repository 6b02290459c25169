use Rattle.std.proofs.Common.{ℕ, ◌≡◌, List, map, ap, subst, ◌∙◌}
use Rattle.mm_field.specs.Vectors.{times_matrix, AreVectors, IsWithin}
use Rattle.mm_linear.specs.ReducedEchelon.{reduced_basis}
use Rattle.mm_matrix.specs.MatrixValue.{MatrixValue, reduced}
use Rattle.mm_matrix.specs.Residues.{AreReduced}
use Rattle.mm_matrix.proofs.NullLemmas.{leads_inside}
use Rattle.mm_decomp.proofs.form.reduce_beside.Goals as goal

leads_of : (m space : MatrixValue) (ks : List ℕ) → space ≡ reduced m → AreReduced space.f space.cols space.rows ks →
    AreReduced m.f m.cols (reduced_basis m.f m.cols m.rows) ks
leads_of m space ks e h = subst (λ (s : MatrixValue). AreReduced s.f s.cols s.rows ks) e h

pub columns-requires : goal.columns-requires
columns-requires c =
    let m = c.args.rows.now in
    leads_inside m.f m.cols (reduced_basis m.f m.cols m.rows) c.leads.result.now
    (leads_of m c.in_ok-space.space c.leads.result.now c.in_ok-space.ensures.rows c.leads.ensures)

pub returns : goal.returns
returns c =
    let m = c.args.rows.now in
    let o = c.args.others.now in
    let ks = c.leads.result.now in
    let e = c.in_ok-space.ensures.rows in
    record {
      each = c.in_ok-space.ensures.span.is_matrix;
      each_other = subst (λ f. AreVectors f o.cols o.rows) c.requires.field c.rows.ensures.each;
      leads = ks;
      are_reduced = leads_of m c.in_ok-space.space ks e c.leads.ensures;
      within = subst (λ (s : MatrixValue). IsWithin m.f m.cols m.rows s.rows) e c.in_ok-space.ensures.span.same.0;
      kept_is = c.into_matrix.ensures ∙ e;
      summed_is =
          c.in_ok-sums.ensures
          ∙ ap (λ (k : MatrixValue). record { f = k.f; cols = o.cols; rows = map (times_matrix k.f o.cols o.rows) k.rows }) c.in_ok-coefficients.ensures;
    }
