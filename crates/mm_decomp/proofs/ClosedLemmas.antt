-- The vectors of a subspace that is given by a closed test, of the meet of two spans, and of what is orthogonal to rows.
use Rattle.std.proofs.Common.{ℕ, suc, ◌<◌, ◌≡◌, ◌↔◌, Bool, true, false, ◌&&◌, List, [], ◌∷◌, ◌++◌, length, get_or, refl, sym, ap, ap₂, subst, ◌∙◌, arith, filter, ◌==◌}
use Rattle.std.specs.Prelude.{IsTrue}
use Rattle.std.specs.List.{Contains, list_all}
use Rattle.std.proofs.lemmas.List.Elements.{All-nil, All-cons, All-head, All-tail, All-filter, filter_passes}
use Rattle.std.proofs.lemmas.Bool.{and_parts, and_from, eqb-true, eq-eqb}
use Rattle.mm_field.specs.declared.Field.{Field}
use Rattle.mm_field.specs.Vectors.{zeros, vector_sum, multiple, combination, IsVector, AreVectors, InSpan}
use Rattle.mm_field.specs.Digits.{plus, times}
use Rattle.mm_field.proofs.VectorLemmas.{multiple-zeros, IsVector-zeros, IsVector-vector_sum, IsVector-multiple}
use Rattle.mm_field.proofs.CombinationLemmas.{first_row, other_rows, IsVector-combination, InSpan-vector_sum, InSpan-multiple, InSpan-zeros, InSpan-within, IsWithin-itself}
use Rattle.mm_linear.specs.Decide.{is_in_span}
use Rattle.mm_linear.specs.ReducedEchelon.{reduced_basis, IsReducedBasis}
use Rattle.mm_linear.specs.Subspaces.{subspace, all_vectors}
use Rattle.mm_decomp.specs.Meets.{meet}
use Rattle.mm_linear.proofs.ReducedEchelonLemmas.{reduced_basis_is, reduced_basis-twice}
use Rattle.mm_linear.proofs.MeetTest.{is_in_span_decides}
use Rattle.mm_linear.proofs.SubspaceTests.{Contains-filter, all_vectors_contain, all_vectors_are, subspace-of_rows}
use Rattle.mm_matrix.specs.MatrixValue.{MatrixValue}
use Rattle.mm_matrix.specs.Orthogonal.{dot, IsOrthogonal, IsOrthogonalBasis}
use Rattle.mm_matrix.proofs.DotLemmas.{plus_zeros, dot-vector_sum, dot-multiple, dot-zeros}
use Rattle.mm_decomp.specs.Duals.{orthogonal_rows}

-- zeros, sums and multiples pass the test
pub record IsClosed (f : Field) (t : ℕ) (test : List ℕ → Bool) : Type 0 where
  pub zero_in : test (zeros t) ≡ true
  pub sums : (u v : List ℕ) → IsVector f t u → IsVector f t v → test u ≡ true → test v ≡ true → test (vector_sum f u v) ≡ true
  pub multiples : (c : ℕ) (u : List ℕ) → IsVector f t u → test u ≡ true → test (multiple f c u) ≡ true

closed_combination : (f : Field) (t : ℕ) (test : List ℕ → Bool) → IsClosed f t test → (cs : List ℕ) (rows : List (List ℕ)) → AreVectors f t rows →
    ((k : ℕ) (d : List ℕ) → k < length rows → test (get_or rows k d) ≡ true) → test (combination f t cs rows) ≡ true
closed_combination f t test c [] rows h p = c.zero_in
closed_combination f t test c (x ∷ cs) [] h p = c.zero_in
closed_combination f t test c (x ∷ cs) (v ∷ rows) h p =
    let hv = first_row f t v rows h in
    let hs = other_rows f t v rows h in
    c.sums (multiple f x v) (combination f t cs rows) (IsVector-multiple f t x v hv.len) (IsVector-combination f t cs rows hs)
    (c.multiples x v hv (p 0 v (omega arith)))
    (closed_combination f t test c cs rows hs (λ k d l. p (suc k) d (omega arith)))

pub subspace_of_closed : (f : Field) (t : ℕ) (test : List ℕ → Bool) → IsClosed f t test → (b : List ℕ) → IsVector f t b →
    InSpan f t (subspace f t test) b ↔ (test b ≡ true)
unfolding subspace
subspace_of_closed f t test c b hb =
    let kept = filter test (all_vectors f t) in
    let hk = All-filter test (λ v. IsVector f t v) (all_vectors f t) (all_vectors_are f t) in
    let e = reduced_basis_is f t kept hk in (
      (λ p.
          let q = InSpan-within f t (reduced_basis f t kept) kept b hk e.span.1 p in
          subst (λ x. test x ≡ true) q.sum
          (closed_combination f t test c q.coefficients kept hk (λ k d l. filter_passes test (all_vectors f t) k d l))),
      (λ p.
          let r = Contains-filter test (all_vectors f t) b (all_vectors_contain f t b hb) p in
          InSpan-within f t kept (reduced_basis f t kept) b e.each e.span.0
          (subst (λ x. InSpan f t kept x) r.2 (IsWithin-itself f t kept hk r.0 b r.1))),
    )

-- a vector is in the meet exactly where it is in both spans
pub meet_is : (f : Field) (n : ℕ) (A B : List (List ℕ)) → AreVectors f n A → AreVectors f n B → (v : List ℕ) → IsVector f n v →
    InSpan f n (meet f n A B) v ↔ (InSpan f n A v × InSpan f n B v)
unfolding meet
meet_is f n A B hA hB v hv =
    let both = subspace_of_closed f n (λ v. is_in_span f n A v && is_in_span f n B v) closed v hv in (
      (λ p. let t = and_parts _ _ (both.0 p) in (
        (is_in_span_decides f n A v hA hv).0 t.0,
        (is_in_span_decides f n B v hB hv).0 t.1,
      )),
      (λ p. both.1 (and_from _ _ ((is_in_span_decides f n A v hA hv).1 p.0) ((is_in_span_decides f n B v hB hv).1 p.1))),
    )
  where
    one : (A : List (List ℕ)) → AreVectors f n A → IsClosed f n (λ v. is_in_span f n A v)
    one A hA = record {
      zero_in = (is_in_span_decides f n A (zeros n) hA (IsVector-zeros f n)).1 (InSpan-zeros f n A hA);
      sums = λ u v hu hv tu tv. (is_in_span_decides f n A (vector_sum f u v) hA (IsVector-vector_sum f n u v hu.len hv.len)).1
          (InSpan-vector_sum f n A u v ((is_in_span_decides f n A u hA hu).0 tu) ((is_in_span_decides f n A v hA hv).0 tv));
      multiples = λ c u hu tu. (is_in_span_decides f n A (multiple f c u) hA (IsVector-multiple f n c u hu.len)).1
          (InSpan-multiple f n c A u ((is_in_span_decides f n A u hA hu).0 tu));
    }

    both_closed : (p q : List ℕ → Bool) → IsClosed f n p → IsClosed f n q → IsClosed f n (λ v. p v && q v)
    both_closed p q a b = record {
      zero_in = and_from (p (zeros n)) (q (zeros n)) a.zero_in b.zero_in;
      sums = λ u v hu hv tu tv.
          let x = and_parts (p u) (q u) tu in
          let y = and_parts (p v) (q v) tv in
          and_from (p (vector_sum f u v)) (q (vector_sum f u v)) (a.sums u v hu hv x.0 y.0) (b.sums u v hu hv x.1 y.1);
      multiples = λ c u hu tu.
          let x = and_parts (p u) (q u) tu in
          and_from (p (multiple f c u)) (q (multiple f c u)) (a.multiples c u hu x.0) (b.multiples c u hu x.1);
    }

    closed : IsClosed f n (λ v. is_in_span f n A v && is_in_span f n B v)
    closed = both_closed (λ v. is_in_span f n A v) (λ v. is_in_span f n B v) (one A hA) (one B hB)

-- ---- what is orthogonal to some rows

orthogonal_test : (f : Field) (rows : List (List ℕ)) (x : List ℕ) → (list_all (λ v. dot f v x == 0) rows ≡ true) ↔ IsOrthogonal f rows x
orthogonal_test f [] x = ((λ t. All-nil (λ v. dot f v x ≡ 0)), (λ o. refl))
orthogonal_test f (v ∷ rows) x =
    let more = orthogonal_test f rows x in (
      (λ t.
          let p = and_parts (dot f v x == 0) (list_all (λ v. dot f v x == 0) rows) t in
          All-cons (λ v. dot f v x ≡ 0) v rows (eqb-true (dot f v x) 0 p.0) (more.0 p.1)),
      (λ o.
          and_from (dot f v x == 0) (list_all (λ v. dot f v x == 0) rows) (eq-eqb (dot f v x) 0 (All-head (λ v. dot f v x ≡ 0) v rows o))
          (more.1 (All-tail (λ v. dot f v x ≡ 0) v rows o))),
    )

module _ (f : Field) (n : ℕ) (rows : List (List ℕ)) where
  abbrev test : List ℕ → Bool
  test x = list_all (λ v. dot f v x == 0) rows

  orthogonal_closed : IsClosed f n test
  orthogonal_closed = record {
    zero_in = (orthogonal_test f rows (zeros n)).1 (λ i d l. dot-zeros f n (get_or rows i d));
    sums = λ u v hu hv tu tv.
        let ou = (orthogonal_test f rows u).0 tu in
        let ov = (orthogonal_test f rows v).0 tv in
        (orthogonal_test f rows (vector_sum f u v)).1 (λ i d l.
        dot-vector_sum f (get_or rows i d) u v (hu.len ∙ sym hv.len) ∙ ap₂ (plus f) (ou i d l) (ov i d l) ∙ plus_zeros f);
    multiples = λ c u hu tu.
        let ou = (orthogonal_test f rows u).0 tu in
        (orthogonal_test f rows (multiple f c u)).1 (λ i d l.
        dot-multiple f c (get_or rows i d) u ∙ ap (times f c) (ou i d l) ∙ ap (λ (v : List ℕ). get_or v 0 0) (multiple-zeros f c 1));
  }

  pub orthogonal_rows_span : (x : List ℕ) → IsVector f n x → InSpan f n (orthogonal_rows f n rows) x ↔ IsOrthogonal f rows x
  unfolding orthogonal_rows
  orthogonal_rows_span x hx =
      let both = subspace_of_closed f n test orthogonal_closed x hx in (
        (λ p. (orthogonal_test f rows x).0 (both.0 p)),
        (λ o. both.1 ((orthogonal_test f rows x).1 o)),
      )

  pub orthogonal_rows_reduced : IsReducedBasis f n (orthogonal_rows f n rows)
  unfolding orthogonal_rows subspace
  orthogonal_rows_reduced = reduced_basis-twice f n (filter test (all_vectors f n)) (All-filter test (λ v. IsVector f n v) (all_vectors f n) (all_vectors_are f n))

  -- the rows of an orthogonal basis are these
  pub orthogonal_basis : (m basis : MatrixValue) → IsOrthogonalBasis m basis → m.f ≡ f → m.cols ≡ n → m.rows ≡ rows → AreVectors f n basis.rows →
      basis.rows ≡ orthogonal_rows f n rows
  unfolding orthogonal_rows
  orthogonal_basis m basis h ef en er hb =
      let same : (x : List ℕ) → IsVector f n x → InSpan f n basis.rows x ↔ (test x ≡ true) =
      (λ x hx.
      let hx2 = subst (λ (g : Field). IsVector g m.cols x) (sym ef) (subst (λ (k : ℕ). IsVector f k x) (sym en) hx) in
      let e = h.exactly x hx2 in (
        (λ p.
            let q = subst (λ (g : Field). InSpan g m.cols basis.rows x) (sym ef) (subst (λ (k : ℕ). InSpan f k basis.rows x) (sym en) p) in
            (orthogonal_test f rows x).1 (subst (λ (g : Field). IsOrthogonal g rows x) ef (subst (λ (vs : List (List ℕ)). IsOrthogonal m.f vs x) er (e.0 q)))),
        (λ t.
            let o = subst (λ (vs : List (List ℕ)). IsOrthogonal m.f vs x) (sym er) (subst (λ (g : Field). IsOrthogonal g rows x) (sym ef) ((orthogonal_test f rows x).0 t)) in
            subst (λ (k : ℕ). InSpan f k basis.rows x) en (subst (λ (g : Field). InSpan g m.cols basis.rows x) ef (e.1 o))),
      )) in
      h.reduced ∙ ap₂ (λ (g : Field) (k : ℕ). reduced_basis g k basis.rows) ef en ∙ sym (subspace-of_rows f n test basis.rows hb same)
