-- Spans of rows and more rows, and of the images of rows.
use Rattle.std.proofs.Common.{ℕ, ◌+◌, List, ◌++◌, length, map, take, drop, refl, sym, ap, ap₂, ◌∙◌, subst, length-append, take-append-drop}
use Rattle.std.proofs.lemmas.List.{length-map}
use Rattle.mm_field.specs.declared.Field.{Field}
use Rattle.mm_field.specs.Vectors.{zeros, vector_sum, combination, IsVector, AreVectors, InSpan, times_matrix}
use Rattle.mm_linear.specs.Sums.{InSum, InImage}
use Rattle.mm_field.proofs.VectorLemmas.{vector_sum_comm, vector_sum-zeros, zeros-vector_sum}
use Rattle.mm_field.proofs.CombinationLemmas.{IsVector-combination, combination-append, combination-times_matrix, InSpan-zeros}
use Rattle.mm_field.proofs.PartLemmas.{IsVector-take, IsVector-drop, IsVector-append, AreVectors-map}

-- the span of rows and more rows is the sum of both spans
pub InSum-from_append : (f : Field) (n : ℕ) (rows sows : List (List ℕ)) (z : List ℕ) → AreVectors f n sows →
    InSpan f n (rows ++ sows) z → InSum f (InSpan f n rows) (InSpan f n sows) z
InSum-from_append f n rows sows z hs p =
    let k = length rows in
    let cs = p.coefficients in
    let hcs : IsVector f (k + length sows) cs =
    record { len = p.each.len ∙ length-append rows sows; digits = p.each.digits } in
    let hx = IsVector-take f k (length sows) cs hcs in
    record {
      one = combination f n (take k cs) rows;
      other = combination f n (drop k cs) sows;
      in_first = record { coefficients = take k cs; each = hx; sum = refl };
      in_second = record { coefficients = drop k cs; each = IsVector-drop f k (length sows) cs hcs; sum = refl };
      sum =
          sym (combination-append f n (take k cs) (drop k cs) rows sows hx.len hs)
          ∙ ap (λ c. combination f n c (rows ++ sows)) (take-append-drop k cs)
          ∙ p.sum;
    }

pub append_from_InSum : (f : Field) (n : ℕ) (rows sows : List (List ℕ)) (z : List ℕ) → AreVectors f n sows →
    InSum f (InSpan f n rows) (InSpan f n sows) z → InSpan f n (rows ++ sows) z
append_from_InSum f n rows sows z hs s =
    let p = s.in_first in
    let q = s.in_second in
    record {
      coefficients = p.coefficients ++ q.coefficients;
      each =
          subst (λ k. IsVector f k (p.coefficients ++ q.coefficients)) (sym (length-append rows sows))
          (IsVector-append f (length rows) (length sows) p.coefficients q.coefficients p.each q.each);
      sum =
          combination-append f n p.coefficients q.coefficients rows sows p.each.len hs
          ∙ ap₂ (λ x y. vector_sum f x y) p.sum q.sum
          ∙ s.sum;
    }

-- a sum the other way round
pub InSum-swapped : (f : Field) (first second : List ℕ → Type 0) (z : List ℕ) → InSum f first second z → InSum f second first z
InSum-swapped f first second z s = record {
  one = s.other;
  other = s.one;
  in_first = s.in_second;
  in_second = s.in_first;
  sum = vector_sum_comm f s.other s.one ∙ s.sum;
}

pub append_left_in : (f : Field) (n : ℕ) (rows sows : List (List ℕ)) (z : List ℕ) → AreVectors f n rows → AreVectors f n sows →
    InSpan f n rows z → InSpan f n (rows ++ sows) z
append_left_in f n rows sows z hr hs p =
    append_from_InSum f n rows sows z hs
    (record {
      one = z;
      other = zeros n;
      in_first = p;
      in_second = InSpan-zeros f n sows hs;
      sum = vector_sum-zeros f n z (subst (λ x. IsVector f n x) p.sum (IsVector-combination f n p.coefficients rows hr));
    })

pub append_right_in : (f : Field) (n : ℕ) (rows sows : List (List ℕ)) (z : List ℕ) → AreVectors f n rows → AreVectors f n sows →
    InSpan f n sows z → InSpan f n (rows ++ sows) z
append_right_in f n rows sows z hr hs p =
    append_from_InSum f n rows sows z hs
    (record {
      one = zeros n;
      other = z;
      in_first = InSpan-zeros f n rows hr;
      in_second = p;
      sum = zeros-vector_sum f n z (subst (λ x. IsVector f n x) p.sum (IsVector-combination f n p.coefficients sows hs));
    })

-- ---- images

-- the span of the images of rows is the image of their span
pub span_of_images : (f : Field) (t r : ℕ) (rows g : List (List ℕ)) (z : List ℕ) → AreVectors f t rows → AreVectors f r g →
    InSpan f r (map (times_matrix f r g) rows) z → InImage f t r g (InSpan f t rows) z
span_of_images f t r rows g z hr hg p =
    let each : IsVector f (length rows) p.coefficients =
    record { len = p.each.len ∙ length-map rows (times_matrix f r g); digits = p.each.digits } in
    record {
      source = combination f t p.coefficients rows;
      vector = IsVector-combination f t p.coefficients rows hr;
      inside = record { coefficients = p.coefficients; each = each; sum = refl };
      gives = sym (combination-times_matrix f r t p.coefficients rows g hr hg) ∙ p.sum;
    }

pub image_of_span : (f : Field) (t r : ℕ) (rows g : List (List ℕ)) (b : List ℕ) → AreVectors f t rows → AreVectors f r g →
    InSpan f t rows b → InSpan f r (map (times_matrix f r g) rows) (times_matrix f r g b)
image_of_span f t r rows g b hr hg p = record {
  coefficients = p.coefficients;
  each = record { len = p.each.len ∙ sym (length-map rows (times_matrix f r g)); digits = p.each.digits };
  sum = combination-times_matrix f r t p.coefficients rows g hr hg ∙ ap (times_matrix f r g) p.sum;
}

pub AreVectors-images : (f : Field) (r : ℕ) (rows g : List (List ℕ)) (t : ℕ) → AreVectors f t rows → AreVectors f r g →
    AreVectors f r (map (times_matrix f r g) rows)
AreVectors-images f r rows g t hr hg =
    AreVectors-map f t r (times_matrix f r g) (λ u hu. IsVector-combination f r u g hg) rows hr
