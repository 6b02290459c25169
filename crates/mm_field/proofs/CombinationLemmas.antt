-- Laws of combinations and spans.
use Rattle.std.proofs.Common.{ℕ, zero, suc, ◌<◌, ◌≡◌, List, [], ◌∷◌, ◌++◌, length, map, replicate, take, drop, refl, sym, ap, ap₂, ◌∙◌, subst, arith}
use Rattle.std.proofs.lemmas.List.{length-replicate}
use Rattle.std.proofs.lemmas.List.Elements.{All-nil, All-cons, All-head, All-tail, All-weaker}
use Rattle.mm_field.specs.declared.Field.{Field}
use Rattle.mm_field.specs.Digits.{order, plus, times}
use Rattle.mm_field.specs.Vectors.{times_matrix, zeros, vector_sum, multiple, combination, IsVector, AreVectors, InSpan, IsWithin}
use Rattle.mm_field.proofs.Tables.{zero_digit, one_digit}
use Rattle.mm_field.proofs.VectorLemmas.{vector_sum_assoc, multiple-vector_sum, multiple-plus, multiple-times, multiple-zeros, zero-multiple, one-multiple, vector_sum-zeros, zeros-vector_sum, vector_sum_middle, length-multiple, IsVector-zeros, IsVector-vector_sum, IsVector-multiple}

pub first_row : (f : Field) (n : ℕ) (v : List ℕ) (vs : List (List ℕ)) → AreVectors f n (v ∷ vs) → IsVector f n v
first_row f n v vs h = All-head (λ v. IsVector f n v) v vs h

pub other_rows : (f : Field) (n : ℕ) (v : List ℕ) (vs : List (List ℕ)) → AreVectors f n (v ∷ vs) → AreVectors f n vs
other_rows f n v vs h = All-tail (λ v. IsVector f n v) v vs h

pub zeros_twice : (f : Field) (n : ℕ) → vector_sum f (zeros n) (zeros n) ≡ zeros n
zeros_twice f n = vector_sum-zeros f n (zeros n) (IsVector-zeros f n)

pub combination-none : (f : Field) (n : ℕ) (cs : List ℕ) → combination f n cs [] ≡ zeros n
combination-none f n [] = refl
combination-none f n (c ∷ cs) = refl

pub combination-vector_sum : (f : Field) (n : ℕ) (cs ds : List ℕ) (rows : List (List ℕ)) → length cs ≡ length ds →
    combination f n (vector_sum f cs ds) rows ≡ vector_sum f (combination f n cs rows) (combination f n ds rows)
combination-vector_sum f n [] [] rows e = sym (zeros_twice f n)
combination-vector_sum f n [] (d ∷ ds) rows e = cc
combination-vector_sum f n (c ∷ cs) [] rows e = cc
combination-vector_sum f n (c ∷ cs) (d ∷ ds) [] e = sym (zeros_twice f n)
combination-vector_sum f n (c ∷ cs) (d ∷ ds) (v ∷ vs) e =
    ap₂ (λ x y. vector_sum f x y) (multiple-plus f c d v) (combination-vector_sum f n cs ds vs (omega arith))
    ∙ vector_sum_middle f (multiple f c v) (multiple f d v) (combination f n cs vs) (combination f n ds vs)

pub combination-multiple : (f : Field) (n c : ℕ) (cs : List ℕ) (rows : List (List ℕ)) →
    combination f n (multiple f c cs) rows ≡ multiple f c (combination f n cs rows)
combination-multiple f n c [] rows = sym (multiple-zeros f c n)
combination-multiple f n c (d ∷ ds) [] = sym (multiple-zeros f c n)
combination-multiple f n c (d ∷ ds) (v ∷ vs) =
    ap₂ (λ x y. vector_sum f x y) (multiple-times f c d v) (combination-multiple f n c ds vs)
    ∙ sym (multiple-vector_sum f c (multiple f d v) (combination f n ds vs))

pub IsVector-combination : (f : Field) (n : ℕ) (cs : List ℕ) (rows : List (List ℕ)) → AreVectors f n rows →
    IsVector f n (combination f n cs rows)
IsVector-combination f n [] rows h = IsVector-zeros f n
IsVector-combination f n (c ∷ cs) [] h = IsVector-zeros f n
IsVector-combination f n (c ∷ cs) (v ∷ vs) h =
    IsVector-vector_sum f n (multiple f c v) (combination f n cs vs)
    (length-multiple f c v ∙ (first_row f n v vs h).len)
    (IsVector-combination f n cs vs (other_rows f n v vs h)).len

pub combination-zeros : (f : Field) (n k : ℕ) (rows : List (List ℕ)) → AreVectors f n rows →
    combination f n (zeros k) rows ≡ zeros n
combination-zeros f n zero rows h = refl
combination-zeros f n (suc k) [] h = refl
combination-zeros f n (suc k) (v ∷ vs) h =
    ap₂ (λ x y. vector_sum f x y)
    (zero-multiple f v ∙ ap zeros (first_row f n v vs h).len)
    (combination-zeros f n k vs (other_rows f n v vs h))
    ∙ zeros_twice f n

pub combination-zero_rows : (f : Field) (n k : ℕ) (cs : List ℕ) → combination f n cs (replicate k (zeros n)) ≡ zeros n
combination-zero_rows f n zero cs = combination-none f n cs
combination-zero_rows f n (suc k) [] = refl
combination-zero_rows f n (suc k) (c ∷ cs) =
    ap₂ (λ x y. vector_sum f x y) (multiple-zeros f c n) (combination-zero_rows f n k cs) ∙ zeros_twice f n

pub combination-append : (f : Field) (n : ℕ) (cs ds : List ℕ) (rows sows : List (List ℕ)) →
    length cs ≡ length rows → AreVectors f n sows →
    combination f n (cs ++ ds) (rows ++ sows) ≡ vector_sum f (combination f n cs rows) (combination f n ds sows)
combination-append f n [] ds [] sows e h =
    sym (zeros-vector_sum f n (combination f n ds sows) (IsVector-combination f n ds sows h))
combination-append f n [] ds (v ∷ vs) sows e h = cc
combination-append f n (c ∷ cs) ds [] sows e h = cc
combination-append f n (c ∷ cs) ds (v ∷ vs) sows e h =
    ap (λ x. vector_sum f (multiple f c v) x) (combination-append f n cs ds vs sows (omega arith) h)
    ∙ sym (vector_sum_assoc f (multiple f c v) (combination f n cs vs) (combination f n ds sows))

-- a product of three matrices is the same in both groupings
pub combination-times_matrix : (f : Field) (n t : ℕ) (cs : List ℕ) (bs rows : List (List ℕ)) →
    AreVectors f t bs → AreVectors f n rows →
    combination f n cs (map (times_matrix f n rows) bs) ≡ combination f n (combination f t cs bs) rows
combination-times_matrix f n t [] bs rows hb hr = sym (combination-zeros f n t rows hr)
combination-times_matrix f n t (c ∷ cs) [] rows hb hr = sym (combination-zeros f n t rows hr)
combination-times_matrix f n t (c ∷ cs) (b ∷ bs) rows hb hr =
    ap₂ (λ x y. vector_sum f x y)
    (sym (combination-multiple f n c b rows))
    (combination-times_matrix f n t cs bs rows (other_rows f t b bs hb) hr)
    ∙ sym (combination-vector_sum f n (multiple f c b) (combination f t cs bs) rows
    (length-multiple f c b ∙ (first_row f t b bs hb).len
    ∙ sym (IsVector-combination f t cs bs (other_rows f t b bs hb)).len))

-- take and drop go through sums, multiples and combinations
pub take-vector_sum : (f : Field) (k : ℕ) (xs ys : List ℕ) → take k (vector_sum f xs ys) ≡ vector_sum f (take k xs) (take k ys)
take-vector_sum f zero xs ys = refl
take-vector_sum f (suc k) [] ys = refl
take-vector_sum f (suc k) (x ∷ xs) [] = refl
take-vector_sum f (suc k) (x ∷ xs) (y ∷ ys) = ap (λ t. plus f x y ∷ t) (take-vector_sum f k xs ys)

pub take-multiple : (f : Field) (c k : ℕ) (xs : List ℕ) → take k (multiple f c xs) ≡ multiple f c (take k xs)
take-multiple f c zero xs = refl
take-multiple f c (suc k) [] = refl
take-multiple f c (suc k) (x ∷ xs) = ap (λ t. times f c x ∷ t) (take-multiple f c k xs)

pub drop-vector_sum : (f : Field) (k : ℕ) (xs ys : List ℕ) → length xs ≡ length ys →
    drop k (vector_sum f xs ys) ≡ vector_sum f (drop k xs) (drop k ys)
drop-vector_sum f zero xs ys e = refl
drop-vector_sum f (suc k) [] [] e = refl
drop-vector_sum f (suc k) [] (y ∷ ys) e = cc
drop-vector_sum f (suc k) (x ∷ xs) [] e = cc
drop-vector_sum f (suc k) (x ∷ xs) (y ∷ ys) e = drop-vector_sum f k xs ys (omega arith)

pub drop-multiple : (f : Field) (c k : ℕ) (xs : List ℕ) → drop k (multiple f c xs) ≡ multiple f c (drop k xs)
drop-multiple f c zero xs = refl
drop-multiple f c (suc k) [] = refl
drop-multiple f c (suc k) (x ∷ xs) = drop-multiple f c k xs

pub vector_sum-append : (f : Field) (xs ys us vs : List ℕ) → length xs ≡ length us →
    vector_sum f (xs ++ ys) (us ++ vs) ≡ vector_sum f xs us ++ vector_sum f ys vs
vector_sum-append f [] ys [] vs e = refl
vector_sum-append f [] ys (u ∷ us) vs e = cc
vector_sum-append f (x ∷ xs) ys [] vs e = cc
vector_sum-append f (x ∷ xs) ys (u ∷ us) vs e = ap (λ t. plus f x u ∷ t) (vector_sum-append f xs ys us vs (omega arith))

pub multiple-append : (f : Field) (c : ℕ) (xs ys : List ℕ) → multiple f c (xs ++ ys) ≡ multiple f c xs ++ multiple f c ys
multiple-append f c [] ys = refl
multiple-append f c (x ∷ xs) ys = ap (λ t. times f c x ∷ t) (multiple-append f c xs ys)

-- Spans.
pub InSpan-vector_sum : (f : Field) (n : ℕ) (rows : List (List ℕ)) (u v : List ℕ) →
    InSpan f n rows u → InSpan f n rows v → InSpan f n rows (vector_sum f u v)
InSpan-vector_sum f n rows u v p q = record {
  coefficients = vector_sum f p.coefficients q.coefficients;
  each = IsVector-vector_sum f (length rows) p.coefficients q.coefficients p.each.len q.each.len;
  sum =
      combination-vector_sum f n p.coefficients q.coefficients rows (p.each.len ∙ sym q.each.len)
      ∙ ap₂ (λ x y. vector_sum f x y) p.sum q.sum;
}

pub InSpan-multiple : (f : Field) (n c : ℕ) (rows : List (List ℕ)) (u : List ℕ) →
    InSpan f n rows u → InSpan f n rows (multiple f c u)
InSpan-multiple f n c rows u p = record {
  coefficients = multiple f c p.coefficients;
  each = IsVector-multiple f (length rows) c p.coefficients p.each.len;
  sum = combination-multiple f n c p.coefficients rows ∙ ap (multiple f c) p.sum;
}

pub InSpan-zeros : (f : Field) (n : ℕ) (rows : List (List ℕ)) → AreVectors f n rows → InSpan f n rows (zeros n)
InSpan-zeros f n rows h = record {
  coefficients = zeros (length rows);
  each = IsVector-zeros f (length rows);
  sum = combination-zeros f n (length rows) rows h;
}

-- what stands in the span of the rows stands in that of the rows and one more
pub InSpan-one_more : (f : Field) (n : ℕ) (v : List ℕ) (rows : List (List ℕ)) (u : List ℕ) → IsVector f n v → AreVectors f n rows →
    InSpan f n rows u → InSpan f n (v ∷ rows) u
InSpan-one_more f n v rows u hv h p = record {
  coefficients = 0 ∷ p.coefficients;
  each = record {
    len = ap suc p.each.len;
    digits = All-cons (λ d. d < order f) 0 p.coefficients (zero_digit f) p.each.digits;
  };
  sum =
      ap₂ (λ x y. vector_sum f x y) (zero-multiple f v ∙ ap zeros hv.len) p.sum
      ∙ zeros-vector_sum f n u (subst (λ w. IsVector f n w) p.sum (IsVector-combination f n p.coefficients rows h));
}

pub InSpan-first : (f : Field) (n : ℕ) (v : List ℕ) (rows : List (List ℕ)) → IsVector f n v → AreVectors f n rows →
    InSpan f n (v ∷ rows) v
InSpan-first f n v rows hv h = record {
  coefficients = 1 ∷ zeros (length rows);
  each = record {
    len = ap suc (length-replicate (length rows) 0);
    digits = All-cons (λ d. d < order f) 1 (zeros (length rows)) (one_digit f) (IsVector-zeros f (length rows)).digits;
  };
  sum =
      ap₂ (λ x y. vector_sum f x y) (one-multiple f v hv.digits) (combination-zeros f n (length rows) rows h)
      ∙ vector_sum-zeros f n v hv;
}

-- a combination of rows that are all in a span is in it
pub InSpan-combination : (f : Field) (n : ℕ) (cs : List ℕ) (rows sows : List (List ℕ)) → AreVectors f n sows →
    IsWithin f n rows sows → InSpan f n sows (combination f n cs rows)
InSpan-combination f n [] rows sows h w = InSpan-zeros f n sows h
InSpan-combination f n (c ∷ cs) [] sows h w = InSpan-zeros f n sows h
InSpan-combination f n (c ∷ cs) (v ∷ vs) sows h w =
    InSpan-vector_sum f n sows (multiple f c v) (combination f n cs vs)
    (InSpan-multiple f n c sows v (All-head (λ v. InSpan f n sows v) v vs w))
    (InSpan-combination f n cs vs sows h (All-tail (λ v. InSpan f n sows v) v vs w))

pub InSpan-within : (f : Field) (n : ℕ) (rows sows : List (List ℕ)) (v : List ℕ) → AreVectors f n sows →
    IsWithin f n rows sows → InSpan f n rows v → InSpan f n sows v
InSpan-within f n rows sows v h w p =
    subst (λ u. InSpan f n sows u) p.sum (InSpan-combination f n p.coefficients rows sows h w)

pub IsWithin-itself : (f : Field) (n : ℕ) (rows : List (List ℕ)) → AreVectors f n rows → IsWithin f n rows rows
IsWithin-itself f n [] h = All-nil (λ v. InSpan f n [] v)
IsWithin-itself f n (v ∷ vs) h =
    let hv = first_row f n v vs h in
    let hs = other_rows f n v vs h in
    All-cons (λ u. InSpan f n (v ∷ vs) u) v vs
    (InSpan-first f n v vs hv hs)
    (All-weaker (λ u. InSpan f n vs u) (λ u. InSpan f n (v ∷ vs) u)
    (λ u p. InSpan-one_more f n v vs u hv hs p) vs (IsWithin-itself f n vs hs))

pub IsWithin-within : (f : Field) (n : ℕ) (rows sows tows : List (List ℕ)) → AreVectors f n tows →
    IsWithin f n rows sows → IsWithin f n sows tows → IsWithin f n rows tows
IsWithin-within f n rows sows tows h p q =
    All-weaker (λ u. InSpan f n sows u) (λ u. InSpan f n tows u) (λ u s. InSpan-within f n sows tows u h q s) rows p
