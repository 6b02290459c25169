-- A row more keeps rows independent exactly where it is outside their span.
use Rattle.std.proofs.Common.{ℕ, suc, ◌<◌, ◌≡◌, ◌≢◌, inl, inr, List, [], ◌∷◌, length, drop, get_or, refl, sym, ap, ap₂, ◌∙◌, subst, arith}
use Rattle.std.proofs.lemmas.Bool.{cases_eq}
use Rattle.std.proofs.lemmas.List.Elements.{All-nil, All-cons}
use Rattle.mm_field.specs.declared.Field.{Field}
use Rattle.mm_field.specs.Digits.{order, negative, inverse}
use Rattle.mm_field.specs.Vectors.{zeros, vector_sum, multiple, combination, IsVector, AreVectors, InSpan, AreIndependent}
use Rattle.mm_field.proofs.Tables.{times_comm, times-inverse, zero_digit, one_digit}
use Rattle.mm_field.proofs.VectorLemmas.{vector_sum-zeros, zeros-vector_sum, opposite-vector_sum, multiple-zeros, zero-multiple, one-multiple, multiple-times, IsVector-multiple, IsVector-zeros}
use Rattle.mm_field.proofs.CombinationLemmas.{zeros_twice, IsVector-combination, combination-multiple, InSpan-multiple}
use Rattle.mm_linear.proofs.EchelonLemmas.{zero_not_one}
use Rattle.mm_linear.proofs.SubspaceLemmas.{from_sum}

pub independent_more : (f : Field) (n : ℕ) (v : List ℕ) (vs : List (List ℕ)) → IsVector f n v → AreVectors f n vs →
    AreIndependent f n vs → (InSpan f n vs v → ⊥) → AreIndependent f n (v ∷ vs)
independent_more f n v vs hv h ind out [] each s = absurd (let a = each.len in omega arith)
independent_more f n v vs hv h ind out (c ∷ ds) each s =
    let hd : IsVector f (length vs) ds = record {
      len = (let a = each.len in omega arith);
      digits = λ k d l. each.digits (suc k) d (omega arith);
    } in
    let w = combination f n ds vs in
    let hw = IsVector-combination f n ds vs h in
    elim (cases_eq c 0) [
      | inl e ↦
          let w_zero : w ≡ zeros n =
          sym (zeros-vector_sum f n w hw)
          ∙ ap (λ x. vector_sum f x w) (sym (ap (λ a. multiple f a v) e ∙ zero-multiple f v ∙ ap zeros hv.len))
          ∙ s in
          ap₂ (λ x y. x ∷ y) e (ind ds hd w_zero)
      | inr ne ↦
          let cv = from_sum f n (multiple f c v) w (zeros n) (IsVector-multiple f n c v hv.len) hw s in
          let cv' = sym (zeros-vector_sum f n (multiple f (negative f 1) w) (IsVector-multiple f n (negative f 1) w hw.len)) ∙ cv in
          let v_is : multiple f (inverse f c) (multiple f (negative f 1) w) ≡ v =
          ap (multiple f (inverse f c)) cv'
          ∙ sym (multiple-times f (inverse f c) c v)
          ∙ ap (λ a. multiple f a v) (times_comm f (inverse f c) c ∙ times-inverse f c (each.digits 0 0 (omega arith)) ne)
          ∙ one-multiple f v hv.digits in
          absurd (out (subst (λ x. InSpan f n vs x) v_is
          (InSpan-multiple f n (inverse f c) vs (multiple f (negative f 1) w)
          (InSpan-multiple f n (negative f 1) vs w (record { coefficients = ds; each = hd; sum = refl })))))
    ]

pub independent_rest : (f : Field) (n : ℕ) (v : List ℕ) (vs : List (List ℕ)) → IsVector f n v →
    AreIndependent f n (v ∷ vs) → AreIndependent f n vs
independent_rest f n v vs hv ind ds each s =
    ap (drop 1)
    (ind (0 ∷ ds)
    (record { len = ap suc each.len; digits = All-cons (λ d. d < order f) 0 ds (zero_digit f) each.digits })
    (ap₂ (λ x y. vector_sum f x y) (zero-multiple f v ∙ ap zeros hv.len) s ∙ zeros_twice f n))

pub independent_outside : (f : Field) (n : ℕ) (v : List ℕ) (vs : List (List ℕ)) → IsVector f n v →
    AreIndependent f n (v ∷ vs) → InSpan f n vs v → ⊥
independent_outside f n v vs hv ind p =
    let ds = multiple f (negative f 1) p.coefficients in
    let hd = IsVector-multiple f (length vs) (negative f 1) p.coefficients p.each.len in
    let all = ind (1 ∷ ds)
    (record { len = ap suc hd.len; digits = All-cons (λ d. d < order f) 1 ds (one_digit f) hd.digits })
    (ap₂ (λ x y. vector_sum f x y) (one-multiple f v hv.digits)
    (combination-multiple f n (negative f 1) p.coefficients vs ∙ ap (multiple f (negative f 1)) p.sum)
    ∙ opposite-vector_sum f v ∙ ap zeros hv.len) in
    zero_not_one 1 (ap (λ (xs : List ℕ). get_or xs 0 0) all) refl

-- ---- one row, and none

combination_one : (f : Field) (n c : ℕ) (v : List ℕ) → IsVector f n v → combination f n (c ∷ []) (v ∷ []) ≡ multiple f c v
combination_one f n c v hv = vector_sum-zeros f n (multiple f c v) (IsVector-multiple f n c v hv.len)

-- one column alone is independent exactly where it is not zero
pub one_independent : (f : Field) (n : ℕ) (v : List ℕ) → IsVector f n v → v ≢ zeros n → AreIndependent f n (v ∷ [])
one_independent f n v hv ne [] each s = absurd (let a = each.len in omega arith)
one_independent f n v hv ne (c ∷ d ∷ ds) each s = absurd (let a = each.len in omega arith)
one_independent f n v hv ne (c ∷ []) each s =
    elim (cases_eq c 0) [
      | inl e ↦ ap (λ x. x ∷ []) e
      | inr nz ↦ absurd (ne
          (sym (one-multiple f v hv.digits)
          ∙ ap (λ a. multiple f a v) (sym (times_comm f (inverse f c) c ∙ times-inverse f c (each.digits 0 0 (omega arith)) nz))
          ∙ multiple-times f (inverse f c) c v
          ∙ ap (multiple f (inverse f c)) (sym (combination_one f n c v hv) ∙ s)
          ∙ multiple-zeros f (inverse f c) n))
    ]

not_both : (xs ys : List ℕ) → xs ≡ 1 ∷ [] → ys ≡ 0 ∷ [] → xs ≡ ys → ⊥
not_both xs ys p q e = cc

pub zero_dependent : (f : Field) (n : ℕ) → AreIndependent f n (zeros n ∷ []) → ⊥
zero_dependent f n ind =
    let each : IsVector f 1 (1 ∷ []) = record {
      len = refl;
      digits = All-cons (λ d. d < order f) 1 [] (one_digit f) (All-nil (λ d. d < order f));
    } in
    not_both (1 ∷ []) (zeros 1) refl refl
    (ind (1 ∷ []) each (combination_one f n 1 (zeros n) (IsVector-zeros f n) ∙ multiple-zeros f 1 n))

pub none_independent : (f : Field) (n : ℕ) → AreIndependent f n []
none_independent f n [] each s = refl
none_independent f n (c ∷ cs) each s = absurd (let a = each.len in omega arith)
