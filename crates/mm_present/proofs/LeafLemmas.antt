-- What accounts for a leaf.
use Rattle.std.proofs.Common.{ℕ, suc, ◌+◌, ◌<◌, ◌≡◌, List, [], ◌∷◌, ◌++◌, length, get_or, refl, sym, ap₂, subst, ◌∙◌, arith}
use Rattle.std.specs.List.{range_with_len}
use Rattle.std.proofs.lemmas.List.Elements.{All-nil, All-cons}
use Rattle.std.proofs.lemmas.Simd.{map-map}
use Rattle.mm_field.specs.declared.Field.{Field}
use Rattle.mm_field.specs.Digits.{order, times}
use Rattle.mm_field.specs.Vectors.{multiple, combination, IsVector, AreVectors, InSpan, AreDigits}
use Rattle.mm_field.proofs.Tables.{plus_zero_digit, times_below, one_digit}
use Rattle.mm_field.proofs.VectorLemmas.{length-multiple, get_or-multiple, vector_sum-zeros, one-multiple, IsVector-multiple}
use Rattle.mm_field.proofs.CombinationLemmas.{InSpan-zeros, multiple-append}
use Rattle.mm_field.proofs.PartLemmas.{IsVector-append}
use Rattle.mm_logic.specs.PresentMatrix.{boundary_rows}
use Rattle.mm_logic.specs.Tree.Tree.{Elem, Void}
use Rattle.mm_matrix.specs.Orthogonal.{dot}
use Rattle.mm_present.specs.Dependencies.{products, pair_of, IsInner, IsPair, Account}
use Rattle.mm_present.specs.Joining.{internal_rows}
use Rattle.mm_present.proofs.PairLemmas.{pair_zeros}
use Rattle.mm_present.proofs.ProductLemmas.{list_of_digits}
use Rattle.mm_present.proofs.RangeLemmas.{same_range}

products_of_element : (f : Field) (vec : List ℕ) (a : ℕ) → products f (boundary_rows f (Elem vec)) (a ∷ []) ≡ multiple f a vec
products_of_element f vec a =
    let n = length vec in
    let m = multiple f a vec in
    map-map (dot f (a ∷ [])) (λ k. get_or vec k 0 ∷ []) (range_with_len 0 n)
    ∙ same_range (λ k. dot f (a ∷ []) (get_or vec k 0 ∷ [])) (λ k. get_or m k 0) 0 n
    (λ k low high. plus_zero_digit f (times f a (get_or vec k 0)) (times_below f a (get_or vec k 0))
    ∙ sym (get_or-multiple f a vec k (omega arith)))
    ∙ list_of_digits m n (length-multiple f a vec)

module _ (f : Field) (g : ℕ) (vec column : List ℕ) (hv : AreDigits f vec) (hc : IsVector f g column) where
  abbrev row : List ℕ
  row = vec ++ column

  hrow : IsVector f (length vec + g) row
  hrow = IsVector-append f (length vec) g vec column (record { len = refl; digits = hv }) hc

  pair_is : (a : ℕ) → pair_of f g (Elem vec) (column ∷ []) (a ∷ []) ≡ multiple f a row
  pair_is a =
      ap₂ (λ x y. x ++ y) (products_of_element f vec a) (vector_sum-zeros f g (multiple f a column) (IsVector-multiple f g a column hc.len))
      ∙ sym (multiple-append f a vec column)

  combination_is : (a : ℕ) → combination f (length vec + g) (a ∷ []) (row ∷ []) ≡ multiple f a row
  combination_is a = vector_sum-zeros f (length vec + g) (multiple f a row) (IsVector-multiple f (length vec + g) a row hrow.len)

  inner_none : (x : List ℕ) → products f (internal_rows f (Elem vec)) x ≡ []
  unfolding internal_rows
  inner_none x = refl

  pub element_account : Account f g (Elem vec) (column ∷ []) (row ∷ []) []
  element_account = record {
    sound =
        All-cons (IsPair f g (Elem vec) (column ∷ [])) row []
        (record {
          x = 1 ∷ [];
          inner = record { vector = record { len = refl; digits = All-cons (λ d. d < order f) 1 [] (one_digit f) (All-nil (λ d. d < order f)) }; inner = inner_none (1 ∷ []) };
          gives = pair_is 1 ∙ one-multiple f row hrow.digits;
        })
        (All-nil (IsPair f g (Elem vec) (column ∷ [])));
    complete = complete;
  }
    where
      complete : (x : List ℕ) → IsInner f (Elem vec) x → InSpan f (length vec + g) (row ∷ []) (pair_of f g (Elem vec) (column ∷ []) x)
      complete [] h = absurd (let e : 0 ≡ 1 = h.vector.len in omega arith)
      complete (a ∷ []) h = record { coefficients = a ∷ []; each = h.vector; sum = combination_is a ∙ sym (pair_is a) }
      complete (a ∷ (b ∷ x)) h = absurd (let e : suc (suc (length x)) ≡ 1 = h.vector.len in omega arith)

pub void_account : (f : Field) (g t : ℕ) → Account f g (Void t) [] [] []
void_account f g t = record {
  sound = All-nil (IsPair f g (Void t) []);
  complete = complete;
}
  where
    none : AreVectors f g []
    none = All-nil (λ v. IsVector f g v)

    complete : (x : List ℕ) → IsInner f (Void t) x → InSpan f (t + g) [] (pair_of f g (Void t) [] x)
    complete [] h = subst (InSpan f (t + g) []) (sym (pair_zeros f g (Void t) [] none 0)) (InSpan-zeros f (t + g) [] (All-nil (λ v. IsVector f (t + g) v)))
    complete (a ∷ x) h = absurd (let e : suc (length x) ≡ 0 = h.vector.len in omega arith)
