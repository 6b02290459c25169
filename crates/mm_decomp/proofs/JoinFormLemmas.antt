-- The forms of leaves and joins.
use Rattle.std.proofs.Common.{ℕ, ◌+◌, ◌≡◌, List, [], ◌∷◌, ◌++◌, length, map, refl, sym, ap, ap₂, ◌∙◌, subst, length-append}
use Rattle.std.proofs.lemmas.List.{length-map}
use Rattle.std.proofs.lemmas.List.Elements.{All-append}
use Rattle.mm_field.specs.declared.Field.{Field}
use Rattle.mm_field.specs.Vectors.{vector_sum, times_matrix, IsVector, AreVectors}
use Rattle.mm_linear.specs.ReducedEchelon.{reduced_basis, IsReducedBasis}
use Rattle.mm_linear.proofs.ReducedEchelonLemmas.{reduced_basis-twice}
use Rattle.mm_linear.proofs.PivotLemmas.{count_leads}
use Rattle.mm_matrix.specs.Columns.{column}
use Rattle.mm_matrix.specs.MatrixValue.{MatrixValue}
use Rattle.mm_decomp.specs.declared.form.Form.{Form}
use Rattle.mm_decomp.specs.Forms.{gathered, sums, ReducesBeside, IsFormOf, IsLeafForm, IsJoinForm}
use Rattle.mm_decomp.proofs.CutLemmas.{gathered-append}
use Rattle.mm_decomp.proofs.PairLemmas.{gathered-first_reduced, gathered-second_reduced}
use Rattle.mm_decomp.proofs.FormLemmas.{basis_of_sums}

pub length-sums : (f : Field) (n : ℕ) (ks : List ℕ) (first second : List (List ℕ)) → length (sums f n ks first second) ≡ length ks
length-sums f n ks first second = length-map (map (column first) ks) (times_matrix f n second) ∙ length-map ks (column first)

-- the sums take their rows' places
pub same_count : (f : Field) (n m : ℕ) (rows others : List (List ℕ)) (kept summed : MatrixValue) → ReducesBeside f n m rows others kept summed →
    length summed.rows ≡ length kept.rows
same_count f n m rows others kept summed r =
    ap (λ (x : MatrixValue). length x.rows) r.summed_is ∙ length-sums f m r.leads rows others
    ∙ sym (count_leads n 0 (reduced_basis f n rows) r.leads r.are_reduced.leads_are) ∙ sym (ap (λ (x : MatrixValue). length x.rows) r.kept_is)

kept_reduced : (f : Field) (n m : ℕ) (rows others : List (List ℕ)) (kept summed : MatrixValue) → ReducesBeside f n m rows others kept summed →
    IsReducedBasis f n kept.rows
kept_reduced f n m rows others kept summed r =
    subst (λ (x : MatrixValue). IsReducedBasis f n x.rows) (sym r.kept_is) (reduced_basis-twice f n rows r.each)

pub leaf_form : (f : Field) (k g : ℕ) (h m : List ℕ) (kept summed : MatrixValue) → ReducesBeside f g k (m ∷ []) (h ∷ []) kept summed →
    IsLeafForm f k g h m (record { functionals = summed; basis = kept })
leaf_form f k g h m kept summed r = record {
  sizes = record {
    field = ap (λ (x : MatrixValue). x.f) r.summed_is;
    basis_field = ap (λ (x : MatrixValue). x.f) r.kept_is;
    size = ap (λ (x : MatrixValue). x.cols) r.summed_is;
    basis_size = ap (λ (x : MatrixValue). x.cols) r.kept_is;
    count = same_count f g k (m ∷ []) (h ∷ []) kept summed r;
  };
  form_of = record {
    each = r.each_other;
    each_column = r.each;
    count = refl;
    same = λ a ha.
        ap₂ (λ (x y : MatrixValue). gathered f g x.rows y.rows a) r.summed_is r.kept_is
        ∙ gathered-second_reduced f k g (h ∷ []) (m ∷ []) (reduced_basis f g (m ∷ [])) r.leads a r.each_other r.each refl r.are_reduced r.within;
  };
  basis = ap (λ (x : MatrixValue). x.rows) r.kept_is;
  reduced = kept_reduced f g k (m ∷ []) (h ∷ []) kept summed r;
}

-- the two steps of a join: first the functionals are reduced, then the vectors
pub record Narrows (f : Field) (k g : ℕ) (ys zs : List (List ℕ)) (form : Form) : Type 0 where
  pub kept : MatrixValue
  pub summed : MatrixValue
  pub count : length ys ≡ length zs
  pub wide : ReducesBeside f k g ys zs kept summed
  pub narrow : ReducesBeside f g k summed.rows kept.rows form.basis form.functionals

narrowed_same : (f : Field) (k g : ℕ) (ys zs : List (List ℕ)) (form : Form) (a : List ℕ) → Narrows f k g ys zs form →
    gathered f g form.functionals.rows form.basis.rows a ≡ gathered f g ys zs a
narrowed_same f k g ys zs form a n =
    let w = n.wide in
    let r = n.narrow in
    ap₂ (λ (x y : MatrixValue). gathered f g x.rows y.rows a) r.summed_is r.kept_is
    ∙ gathered-second_reduced f k g n.kept.rows n.summed.rows (reduced_basis f g n.summed.rows) r.leads a r.each_other r.each
    (sym (same_count f k g ys zs n.kept n.summed w)) r.are_reduced r.within
    ∙ ap₂ (λ (x y : MatrixValue). gathered f g x.rows y.rows a) w.kept_is w.summed_is
    ∙ gathered-first_reduced f k g ys zs (reduced_basis f k ys) w.leads a w.each w.each_other w.are_reduced w.within

pub join_form : (f : Field) (k g : ℕ) (left right form : Form) → length left.functionals.rows ≡ length left.basis.rows →
    Narrows f k g (left.functionals.rows ++ right.functionals.rows) (left.basis.rows ++ right.basis.rows) form → AreVectors f g right.basis.rows →
    IsJoinForm f k g left right form
join_form f k g left right form el n hr = record {
  sizes = record {
    field = ap (λ (x : MatrixValue). x.f) n.narrow.summed_is;
    basis_field = ap (λ (x : MatrixValue). x.f) n.narrow.kept_is;
    size = ap (λ (x : MatrixValue). x.cols) n.narrow.summed_is;
    basis_size = ap (λ (x : MatrixValue). x.cols) n.narrow.kept_is;
    count = same_count f g k n.summed.rows n.kept.rows form.basis form.functionals n.narrow;
  };
  reduced = kept_reduced f g k n.summed.rows n.kept.rows form.basis form.functionals n.narrow;
  keeps = λ hl ml hr' mr p q. record {
    each = All-append (λ v. IsVector f k v) hl hr' p.each q.each;
    each_column = All-append (λ v. IsVector f g v) ml mr p.each_column q.each_column;
    count = length-append hl hr' ∙ ap₂ (λ a b. a + b) p.count q.count ∙ sym (length-append ml mr);
    same = λ a ha. narrowed_same f k g ys zs form a n ∙ both hl ml hr' mr p q a ha;
  };
  space = λ hl ml hr' mr p q.
      ap (λ (x : MatrixValue). x.rows) n.narrow.kept_is
      ∙ ap (λ (x : MatrixValue). reduced_basis f g x.rows) n.wide.summed_is
      ∙ basis_of_sums f k g (hl ++ hr') (ml ++ mr) ys zs (reduced_basis f k ys) n.wide.leads
      (All-append (λ v. IsVector f k v) hl hr' p.each q.each) (All-append (λ v. IsVector f g v) ml mr p.each_column q.each_column)
      n.wide.each n.wide.each_other n.wide.are_reduced n.wide.within (both hl ml hr' mr p q);
}
  where
    ys : List (List ℕ)
    ys = left.functionals.rows ++ right.functionals.rows

    zs : List (List ℕ)
    zs = left.basis.rows ++ right.basis.rows

    both : (hl ml hr' mr : List (List ℕ)) → IsFormOf f k g hl ml left → IsFormOf f k g hr' mr right → (a : List ℕ) → IsVector f k a →
        gathered f g ys zs a ≡ gathered f g (hl ++ hr') (ml ++ mr) a
    both hl ml hr' mr p q a ha =
        gathered-append f g left.functionals.rows right.functionals.rows left.basis.rows right.basis.rows a el hr
        ∙ ap₂ (λ u v. vector_sum f u v) (p.same a ha) (q.same a ha)
        ∙ sym (gathered-append f g hl hr' ml mr a p.count q.each_column)
