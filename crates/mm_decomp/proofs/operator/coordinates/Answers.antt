use Rattle.std.proofs.Common.{ℕ, ◌≡◌, List, [], length, map, ap, ap₂, subst, ◌∙◌}
use Rattle.mm_linear.specs.ReducedEchelon.{reduced_basis}
use Rattle.mm_matrix.specs.Columns.{column}
use Rattle.mm_matrix.specs.MatrixValue.{MatrixValue, reduced}
use Rattle.mm_matrix.specs.Residues.{AreReduced}
use Rattle.mm_matrix.proofs.NullLemmas.{leads_inside}
use Rattle.std.proofs.lemmas.Result.{IfOk-weaker}
use Rattle.mm_field.specs.Vectors.{IsWithin}
use Rattle.mm_decomp.specs.Meets.{extended}
use Rattle.mm_decomp.specs.Forms.{all_columns, AreCoordinates}
use Rattle.mm_decomp.proofs.OperatorLemmas.{coordinates_found}
use Rattle.mm_decomp.proofs.operator.coordinates.Goals as goal

leads_of : (m space : MatrixValue) (ks : List ℕ) → space ≡ reduced m → AreReduced space.f space.cols space.rows ks →
    AreReduced m.f m.cols (reduced_basis m.f m.cols m.rows) ks
leads_of m space ks e h = subst (λ (s : MatrixValue). AreReduced s.f s.cols s.rows ks) e h

pub columns-requires : goal.columns-requires
columns-requires c =
    let m = c.args.all.now in
    leads_inside m.f m.cols (reduced_basis m.f m.cols m.rows) c.leads.result.now
    (leads_of m c.in_ok-span.span c.leads.result.now c.in_ok-span.ensures.rows c.leads.ensures)

pub returns : goal.returns
returns c =
    let m = c.args.all.now in
    let f = m.f in
    let g = m.cols in
    let ls = c.leads.result.now in
    let list = extended f g [] m.rows in
    let red = leads_of m c.in_ok-span.span ls c.in_ok-span.ensures.rows c.leads.ensures in
    let span = c.in_ok-span.ensures.span in
    let within = subst (λ (s : MatrixValue). IsWithin f g m.rows s.rows) c.in_ok-span.ensures.rows span.same.0 in
    let found = coordinates_found f g m.rows ls span.is_matrix red within in
    let small : MatrixValue = record { f = f; cols = length m.rows; rows = map (column m.rows) ls } in
    let columns : c.into_matrix.result ≡ reduced small =
    c.into_matrix.ensures ∙ c.in_ok-columns.ensures.rows ∙ ap reduced c.in_ok-digits.ensures in
    IfOk-weaker c.transposed-2.result _ (λ t. AreCoordinates m t)
    (λ t e. record {
      each = span.is_matrix;
      within = found.0;
      found_is =
          e ∙ ap (λ (x : MatrixValue). record { f = x.f; cols = length x.rows; rows = all_columns x.cols x.rows }) columns
          ∙ ap₂ (λ (n : ℕ) (xs : List (List ℕ)). record { f = f; cols = n; rows = xs }) found.1 found.2;
    })
    c.transposed-2.ensures
