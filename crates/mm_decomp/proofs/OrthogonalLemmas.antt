-- A vector is in the span of rows where it is orthogonal to all vectors that are orthogonal to the rows.
use Rattle.std.proofs.Common.{ℕ, suc, ◌+◌, ◌<◌, ◌≤◌, ◌≡◌, Bool, true, false, List, [], ◌∷◌, length, get_or, refl, sym, ap, ◌∙◌, subst, arith}
use Rattle.std.proofs.lemmas.List.Elements.{All-cons}
use Rattle.mm_field.specs.declared.Field.{Field}
use Rattle.mm_field.specs.Vectors.{IsVector, AreVectors, InSpan, IsWithin, AreIndependent}
use Rattle.mm_field.proofs.CombinationLemmas.{InSpan-within, IsWithin-itself}
use Rattle.mm_linear.specs.Decide.{is_in_span}
use Rattle.mm_linear.specs.ReducedEchelon.{reduced_basis, IsLeftBasis}
use Rattle.mm_linear.proofs.IndependenceLemmas.{independent_more}
use Rattle.mm_linear.proofs.MeetTest.{is_in_span_decides}
use Rattle.mm_linear.proofs.ReducedEchelonLemmas.{reduced_basis_is}
use Rattle.mm_linear.proofs.SpaceLemmas.{false_true}
use Rattle.mm_matrix.specs.Orthogonal.{dot, IsOrthogonal}
use Rattle.mm_matrix.specs.Projections.{kernel_vectors}
use Rattle.mm_matrix.specs.Residues.{AreReduced}
use Rattle.mm_matrix.proofs.DimensionLemmas.{dimension}
use Rattle.mm_matrix.proofs.DotLemmas.{dot-comm, orthogonal_within}
use Rattle.mm_matrix.proofs.FreeLemmas.{AreVectors-kernel_vectors, count_kernel_vectors, free_inside, independent_kernel_vectors, null_is_orthogonal, orthogonal_is_null, reduced_independent}
use Rattle.mm_matrix.proofs.NullLemmas.{leads_inside}
use Rattle.mm_decomp.proofs.RankLemmas.{few_independent}

-- independent rows within the span of as many rows span it
spans_all : (f : Field) (n : ℕ) (rows sows : List (List ℕ)) (w : List ℕ) → AreVectors f n rows → AreVectors f n sows → AreIndependent f n rows →
    IsWithin f n rows sows → length sows ≤ length rows → IsVector f n w → InSpan f n sows w → InSpan f n rows w
spans_all f n rows sows w hr hs ind inside few hw p = go (is_in_span f n rows w) refl
  where
    go : (b : Bool) → is_in_span f n rows w ≡ b → InSpan f n rows w
    go true e = (is_in_span_decides f n rows w hr hw).0 e
    go false e =
        let out : InSpan f n rows w → ⊥ = λ q. false_true ⊥ (sym e ∙ (is_in_span_decides f n rows w hr hw).1 q) in
        let more = few_independent f n (w ∷ rows) sows (All-cons (λ v. IsVector f n v) w rows hw hr) hs (independent_more f n w rows hw hr ind out)
        (All-cons (λ v. InSpan f n sows v) w rows p inside) in
        absurd (omega (arith, more, few))

module _ (f : Field) (n : ℕ) (rows : List (List ℕ)) (h : AreVectors f n rows) where
  abbrev R : List (List ℕ)
  R = reduced_basis f n rows

  b : IsLeftBasis f n rows R
  b = reduced_basis_is f n rows h

  red : AreReduced f n R b.leads
  red = record { each = b.each; leads_are = b.echelon; clear = b.reduced }

  -- a basis of what is orthogonal to the rows
  abbrev N : List (List ℕ)
  N = kernel_vectors f n R b.leads

  hN : AreVectors f n N
  hN = AreVectors-kernel_vectors f n R b.leads _ (leads_inside f n R b.leads red) (free_inside f n R)

  c : IsLeftBasis f n N (reduced_basis f n N)
  c = reduced_basis_is f n N hN

  red_null : AreReduced f n (reduced_basis f n N) c.leads
  red_null = record { each = c.each; leads_are = c.echelon; clear = c.reduced }

  -- and of what is orthogonal to that
  abbrev P : List (List ℕ)
  P = kernel_vectors f n (reduced_basis f n N) c.leads

  hP : AreVectors f n P
  hP = AreVectors-kernel_vectors f n (reduced_basis f n N) c.leads _ (leads_inside f n (reduced_basis f n N) c.leads red_null) (free_inside f n (reduced_basis f n N))

  as_many : length P ≡ length R
  as_many =
      let p = count_kernel_vectors f n R b.leads red in
      let q = count_kernel_vectors f n (reduced_basis f n N) c.leads red_null in
      let d = dimension f n N hN (independent_kernel_vectors f n R b.leads red) in
      omega (arith, p, q, d)

  -- what is orthogonal to the first basis is in the span of the second
  in_second : (w : List ℕ) → IsVector f n w → IsOrthogonal f N w → InSpan f n P w
  in_second w hw o = orthogonal_is_null f n (reduced_basis f n N) c.leads w red_null hw (orthogonal_within f n (reduced_basis f n N) N w hN c.span.1 o)

  null_row : (i : ℕ) (d : List ℕ) → i < length N → IsOrthogonal f R (get_or N i d)
  null_row i d l = null_is_orthogonal f n R b.leads (get_or N i d) red (IsWithin-itself f n N hN i d l)

  within_second : IsWithin f n R P
  within_second = λ j d l.
      in_second (get_or R j d) (b.each j d l) (λ i e li. dot-comm f (get_or N i e) (get_or R j d) ∙ null_row i e li j d l)

  pub inside_by_orthogonal : (w : List ℕ) → IsVector f n w → ((x : List ℕ) → IsVector f n x → IsOrthogonal f rows x → dot f w x ≡ 0) → InSpan f n rows w
  inside_by_orthogonal w hw orth =
      let few : length P ≤ length R = (let e = as_many in omega (arith, e)) in
      let o : IsOrthogonal f N w =
      (λ i d l.
      let y = get_or N i d in
      dot-comm f y w ∙ orth y (hN i d l) (orthogonal_within f n rows R y b.each b.span.0 (null_row i d l))) in
      InSpan-within f n R rows w h b.span.1
      (spans_all f n R P w b.each hP (reduced_independent f n R b.leads red) within_second few hw (in_second w hw o))
