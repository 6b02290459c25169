-- Sums of products: they are linear on both sides.
use Rattle.std.proofs.Common.{ℕ, zero, suc, ◌-◌, ◌<◌, ◌≡◌, List, [], ◌∷◌, ◌++◌, length, map, get_or, refl, sym, ap, ap₂, ◌∙◌, arith}
use Rattle.std.proofs.lemmas.List.{length-map, get_or-map}
use Rattle.std.proofs.lemmas.List.Elements.{All-head, All-tail}
use Rattle.std.specs.List.{All}
use Rattle.mm_field.specs.declared.Field.{Field}
use Rattle.mm_field.specs.Digits.{order, plus, times}
use Rattle.mm_field.specs.Vectors.{zeros, vector_sum, multiple, combination, IsVector, AreVectors, IsWithin}
use Rattle.mm_field.proofs.Tables.{plus_assoc, plus_comm, times_assoc, times_comm, times-plus, times-zero, plus_zero_digit, times_one_digit, plus_below, zero_digit}
use Rattle.mm_field.proofs.VectorLemmas.{length-multiple}
use Rattle.mm_field.proofs.CombinationLemmas.{first_row, other_rows, IsVector-combination}
use Rattle.mm_linear.specs.Coordinates.{unit}
use Rattle.mm_matrix.specs.Orthogonal.{dot, IsOrthogonal}

plus_middle : (f : Field) (a b c d : ℕ) → plus f (plus f a b) (plus f c d) ≡ plus f (plus f a c) (plus f b d)
plus_middle f a b c d =
    plus_assoc f a b (plus f c d)
    ∙ ap (plus f a) (sym (plus_assoc f b c d) ∙ ap (λ x. plus f x d) (plus_comm f b c) ∙ plus_assoc f c b d)
    ∙ sym (plus_assoc f a c (plus f b d))

pub plus_zeros : (f : Field) → plus f 0 0 ≡ 0
plus_zeros f = plus_zero_digit f 0 (zero_digit f)

pub dot-comm : (f : Field) (xs ys : List ℕ) → dot f xs ys ≡ dot f ys xs
dot-comm f [] [] = refl
dot-comm f [] (y ∷ ys) = refl
dot-comm f (x ∷ xs) [] = refl
dot-comm f (x ∷ xs) (y ∷ ys) = ap₂ (plus f) (times_comm f x y) (dot-comm f xs ys)

pub dot-vector_sum : (f : Field) (v xs ys : List ℕ) → length xs ≡ length ys → dot f v (vector_sum f xs ys) ≡ plus f (dot f v xs) (dot f v ys)
dot-vector_sum f [] xs ys e = sym (plus_zeros f)
dot-vector_sum f (a ∷ v) [] [] e = sym (plus_zeros f)
dot-vector_sum f (a ∷ v) [] (y ∷ ys) e = cc
dot-vector_sum f (a ∷ v) (x ∷ xs) [] e = cc
dot-vector_sum f (a ∷ v) (x ∷ xs) (y ∷ ys) e =
    ap₂ (plus f) (times-plus f a x y) (dot-vector_sum f v xs ys (omega arith))
    ∙ plus_middle f (times f a x) (times f a y) (dot f v xs) (dot f v ys)

pub dot-multiple : (f : Field) (c : ℕ) (v xs : List ℕ) → dot f v (multiple f c xs) ≡ times f c (dot f v xs)
dot-multiple f c [] xs = sym (times-zero f c)
dot-multiple f c (a ∷ v) [] = sym (times-zero f c)
dot-multiple f c (a ∷ v) (x ∷ xs) =
    ap₂ (plus f)
    (sym (times_assoc f a c x) ∙ ap (λ y. times f y x) (times_comm f a c) ∙ times_assoc f c a x)
    (dot-multiple f c v xs)
    ∙ sym (times-plus f c (times f a x) (dot f v xs))

pub dot-zeros : (f : Field) (n : ℕ) (v : List ℕ) → dot f v (zeros n) ≡ 0
dot-zeros f n [] = refl
dot-zeros f zero (a ∷ v) = refl
dot-zeros f (suc n) (a ∷ v) = ap₂ (plus f) (times-zero f a) (dot-zeros f n v) ∙ plus_zeros f

pub dot_below : (f : Field) (xs ys : List ℕ) → dot f xs ys < order f
dot_below f [] ys = zero_digit f
dot_below f (x ∷ xs) [] = zero_digit f
dot_below f (x ∷ xs) (y ∷ ys) = plus_below f (times f x y) (dot f xs ys)

pub unit_later : (n k : ℕ) → unit (suc n) (suc k) ≡ 0 ∷ unit n k
unit_later n k = ap (λ (m : ℕ). 0 ∷ (zeros k ++ (1 ∷ zeros m))) (let e : suc n - suc (suc k) ≡ n - suc k = omega arith in e)

-- the product with a unit vector is an entry
pub dot-unit : (f : Field) (n k : ℕ) (v : List ℕ) → IsVector f n v → k < n → dot f v (unit n k) ≡ get_or v k 0
dot-unit f n k [] h l = absurd (let e : 0 ≡ n = h.len in omega arith)
dot-unit f zero k (a ∷ v) h l = absurd (omega arith)
dot-unit f (suc n) zero (a ∷ v) h l =
    ap₂ (plus f) (times_one_digit f a (All-head (λ d. d < order f) a v h.digits)) (dot-zeros f (suc n - 1) v)
    ∙ plus_zero_digit f a (All-head (λ d. d < order f) a v h.digits)
dot-unit f (suc n) (suc k) (a ∷ v) h l =
    ap (dot f (a ∷ v)) (unit_later n k)
    ∙ ap (λ x. plus f x (dot f v (unit n k))) (times-zero f a)
    ∙ plus_comm f 0 (dot f v (unit n k)) ∙ plus_zero_digit f (dot f v (unit n k)) (dot_below f v (unit n k))
    ∙ dot-unit f n k v (record { len = (let e : suc (length v) ≡ suc n = h.len in omega arith); digits = All-tail (λ d. d < order f) a v h.digits }) (omega arith)

-- the product with a combination
pub dot-combination : (f : Field) (n : ℕ) (v cs : List ℕ) (rows : List (List ℕ)) → AreVectors f n rows →
    dot f v (combination f n cs rows) ≡ dot f cs (map (dot f v) rows)
dot-combination f n v [] rows h = dot-zeros f n v
dot-combination f n v (c ∷ cs) [] h = dot-zeros f n v
dot-combination f n v (c ∷ cs) (r ∷ rows) h =
    let hr = first_row f n r rows h in
    let hs = other_rows f n r rows h in
    dot-vector_sum f v (multiple f c r) (combination f n cs rows)
    (length-multiple f c r ∙ hr.len ∙ sym (IsVector-combination f n cs rows hs).len)
    ∙ ap₂ (plus f) (dot-multiple f c v r) (dot-combination f n v cs rows hs)

pub all_zero : (f : Field) (cs ds : List ℕ) → All (λ d. d ≡ 0) ds → dot f cs ds ≡ 0
all_zero f [] ds z = refl
all_zero f (c ∷ cs) [] z = refl
all_zero f (c ∷ cs) (d ∷ ds) z =
    ap₂ (λ (a b : ℕ). plus f (times f c a) b) (All-head (λ e. e ≡ 0) d ds z) (all_zero f cs ds (All-tail (λ e. e ≡ 0) d ds z))
    ∙ ap (λ a. plus f a 0) (times-zero f c) ∙ plus_zeros f

-- what is orthogonal to rows is orthogonal to their combinations
pub orthogonal_to_combination : (f : Field) (n : ℕ) (cs : List ℕ) (rows : List (List ℕ)) (x : List ℕ) → AreVectors f n rows →
    IsOrthogonal f rows x → dot f (combination f n cs rows) x ≡ 0
orthogonal_to_combination f n cs rows x h orth =
    dot-comm f (combination f n cs rows) x ∙ dot-combination f n x cs rows h ∙ all_zero f cs (map (dot f x) rows)
    (λ k d l.
    let m : k < length rows = (let e = length-map rows (dot f x) in omega arith) in
    get_or-map (dot f x) rows k [] d m ∙ dot-comm f x (get_or rows k []) ∙ orth k [] m)

pub orthogonal_within : (f : Field) (n : ℕ) (rows sows : List (List ℕ)) (x : List ℕ) → AreVectors f n sows → IsWithin f n rows sows →
    IsOrthogonal f sows x → IsOrthogonal f rows x
orthogonal_within f n rows sows x h within orth = λ k d l.
    let p = within k d l in
    ap (λ (v : List ℕ). dot f v x) (sym p.sum) ∙ orthogonal_to_combination f n p.coefficients sows x h orth
