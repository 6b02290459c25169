-- Laws of sums, multiples and combinations of vectors.
use Rattle.std.proofs.Common.{ℕ, zero, suc, ◌<◌, ◌≡◌, List, [], ◌∷◌, length, get_or, refl, sym, ap, ap₂, ◌∙◌, arith}
use Rattle.std.proofs.lemmas.List.{length-replicate, get_or-replicate, ext_get_or}
use Rattle.std.proofs.lemmas.List.Elements.{All-nil, All-cons, All-head, All-tail, All-replicate}
use Rattle.mm_field.specs.declared.Field.{Field}
use Rattle.mm_field.specs.Digits.{order, plus, times, negative}
use Rattle.mm_field.specs.Vectors.{zeros, vector_sum, multiple, AreDigits, IsVector}
use Rattle.mm_field.proofs.Tables.{plus_assoc, plus_comm, times_assoc, times_comm, times-plus, times-zero, plus-negative, negative-times, plus_below, times_below, plus_zero_digit, times_one_digit, zero_digit}

pub vector_sum_comm : (f : Field) (xs ys : List ℕ) → vector_sum f xs ys ≡ vector_sum f ys xs
vector_sum_comm f [] [] = refl
vector_sum_comm f [] (y ∷ ys) = refl
vector_sum_comm f (x ∷ xs) [] = refl
vector_sum_comm f (x ∷ xs) (y ∷ ys) = ap₂ (λ h t. h ∷ t) (plus_comm f x y) (vector_sum_comm f xs ys)

pub vector_sum_assoc : (f : Field) (xs ys zs : List ℕ) → vector_sum f (vector_sum f xs ys) zs ≡ vector_sum f xs (vector_sum f ys zs)
vector_sum_assoc f [] ys zs = refl
vector_sum_assoc f (x ∷ xs) [] zs = refl
vector_sum_assoc f (x ∷ xs) (y ∷ ys) [] = refl
vector_sum_assoc f (x ∷ xs) (y ∷ ys) (z ∷ zs) = ap₂ (λ h t. h ∷ t) (plus_assoc f x y z) (vector_sum_assoc f xs ys zs)

pub multiple-vector_sum : (f : Field) (c : ℕ) (xs ys : List ℕ) →
    multiple f c (vector_sum f xs ys) ≡ vector_sum f (multiple f c xs) (multiple f c ys)
multiple-vector_sum f c [] ys = refl
multiple-vector_sum f c (x ∷ xs) [] = refl
multiple-vector_sum f c (x ∷ xs) (y ∷ ys) = ap₂ (λ h t. h ∷ t) (times-plus f c x y) (multiple-vector_sum f c xs ys)

pub plus-times : (f : Field) (a b c : ℕ) → times f (plus f a b) c ≡ plus f (times f a c) (times f b c)
plus-times f a b c =
    times_comm f (plus f a b) c ∙ times-plus f c a b ∙ ap₂ (λ x y. plus f x y) (times_comm f c a) (times_comm f c b)

pub multiple-plus : (f : Field) (c d : ℕ) (xs : List ℕ) →
    multiple f (plus f c d) xs ≡ vector_sum f (multiple f c xs) (multiple f d xs)
multiple-plus f c d [] = refl
multiple-plus f c d (x ∷ xs) = ap₂ (λ h t. h ∷ t) (plus-times f c d x) (multiple-plus f c d xs)

pub multiple-times : (f : Field) (c d : ℕ) (xs : List ℕ) →
    multiple f (times f c d) xs ≡ multiple f c (multiple f d xs)
multiple-times f c d [] = refl
multiple-times f c d (x ∷ xs) = ap₂ (λ h t. h ∷ t) (times_assoc f c d x) (multiple-times f c d xs)

pub multiple-zeros : (f : Field) (c n : ℕ) → multiple f c (zeros n) ≡ zeros n
multiple-zeros f c zero = refl
multiple-zeros f c (suc n) = ap₂ (λ h t. h ∷ t) (times-zero f c) (multiple-zeros f c n)

pub zero-multiple : (f : Field) (xs : List ℕ) → multiple f 0 xs ≡ zeros (length xs)
zero-multiple f [] = refl
zero-multiple f (x ∷ xs) = ap₂ (λ h t. h ∷ t) (times_comm f 0 x ∙ times-zero f x) (zero-multiple f xs)

pub one-multiple : (f : Field) (xs : List ℕ) → AreDigits f xs → multiple f 1 xs ≡ xs
one-multiple f [] h = refl
one-multiple f (x ∷ xs) h =
    ap₂ (λ h t. h ∷ t)
    (times_comm f 1 x ∙ times_one_digit f x (All-head (λ d. d < order f) x xs h))
    (one-multiple f xs (All-tail (λ d. d < order f) x xs h))

pub vector_sum-zeros_all : (f : Field) (xs : List ℕ) → AreDigits f xs → vector_sum f xs (zeros (length xs)) ≡ xs
vector_sum-zeros_all f [] h = refl
vector_sum-zeros_all f (x ∷ xs) h =
    ap₂ (λ h t. h ∷ t)
    (plus_zero_digit f x (All-head (λ d. d < order f) x xs h))
    (vector_sum-zeros_all f xs (All-tail (λ d. d < order f) x xs h))

pub vector_sum-zeros : (f : Field) (n : ℕ) (xs : List ℕ) → IsVector f n xs → vector_sum f xs (zeros n) ≡ xs
vector_sum-zeros f n xs h = rw (← h.len) (vector_sum-zeros_all f xs h.digits)

pub zeros-vector_sum : (f : Field) (n : ℕ) (xs : List ℕ) → IsVector f n xs → vector_sum f (zeros n) xs ≡ xs
zeros-vector_sum f n xs h = vector_sum_comm f (zeros n) xs ∙ vector_sum-zeros f n xs h

pub opposite-vector_sum : (f : Field) (xs : List ℕ) → vector_sum f xs (multiple f (negative f 1) xs) ≡ zeros (length xs)
opposite-vector_sum f [] = refl
opposite-vector_sum f (x ∷ xs) =
    ap₂ (λ h t. h ∷ t) (ap (λ y. plus f x y) (sym (negative-times f x)) ∙ plus-negative f x) (opposite-vector_sum f xs)

pub vector_sum_middle : (f : Field) (a b c d : List ℕ) →
    vector_sum f (vector_sum f a b) (vector_sum f c d) ≡ vector_sum f (vector_sum f a c) (vector_sum f b d)
vector_sum_middle f a b c d =
    vector_sum_assoc f a b (vector_sum f c d)
    ∙ ap (λ x. vector_sum f a x) (sym (vector_sum_assoc f b c d) ∙ ap (λ y. vector_sum f y d) (vector_sum_comm f b c) ∙ vector_sum_assoc f c b d)
    ∙ sym (vector_sum_assoc f a c (vector_sum f b d))

-- lengths and digits
pub length-vector_sum : (f : Field) (xs ys : List ℕ) → length xs ≡ length ys → length (vector_sum f xs ys) ≡ length ys
length-vector_sum f [] [] e = refl
length-vector_sum f [] (y ∷ ys) e = cc
length-vector_sum f (x ∷ xs) [] e = cc
length-vector_sum f (x ∷ xs) (y ∷ ys) e = ap suc (length-vector_sum f xs ys (omega arith))

pub length-multiple : (f : Field) (c : ℕ) (xs : List ℕ) → length (multiple f c xs) ≡ length xs
length-multiple f c [] = refl
length-multiple f c (x ∷ xs) = ap suc (length-multiple f c xs)

pub digits-vector_sum : (f : Field) (xs ys : List ℕ) → AreDigits f (vector_sum f xs ys)
digits-vector_sum f [] ys = All-nil (λ d. d < order f)
digits-vector_sum f (x ∷ xs) [] = All-nil (λ d. d < order f)
digits-vector_sum f (x ∷ xs) (y ∷ ys) = All-cons (λ d. d < order f) _ _ (plus_below f x y) (digits-vector_sum f xs ys)

pub digits-multiple : (f : Field) (c : ℕ) (xs : List ℕ) → AreDigits f (multiple f c xs)
digits-multiple f c [] = All-nil (λ d. d < order f)
digits-multiple f c (x ∷ xs) = All-cons (λ d. d < order f) _ _ (times_below f c x) (digits-multiple f c xs)

pub IsVector-zeros : (f : Field) (n : ℕ) → IsVector f n (zeros n)
IsVector-zeros f n = record { len = length-replicate n 0; digits = All-replicate (λ d. d < order f) n 0 (zero_digit f) }

pub IsVector-vector_sum : (f : Field) (n : ℕ) (xs ys : List ℕ) → length xs ≡ n → length ys ≡ n → IsVector f n (vector_sum f xs ys)
IsVector-vector_sum f n xs ys p q = record { len = length-vector_sum f xs ys (p ∙ sym q) ∙ q; digits = digits-vector_sum f xs ys }

pub IsVector-multiple : (f : Field) (n c : ℕ) (xs : List ℕ) → length xs ≡ n → IsVector f n (multiple f c xs)
IsVector-multiple f n c xs p = record { len = length-multiple f c xs ∙ p; digits = digits-multiple f c xs }

-- entries
pub get_or-vector_sum : (f : Field) (xs ys : List ℕ) (k : ℕ) → length xs ≡ length ys → k < length ys →
    get_or (vector_sum f xs ys) k 0 ≡ plus f (get_or xs k 0) (get_or ys k 0)
get_or-vector_sum f [] [] k e l = absurd (omega arith)
get_or-vector_sum f [] (y ∷ ys) k e l = cc
get_or-vector_sum f (x ∷ xs) [] k e l = cc
get_or-vector_sum f (x ∷ xs) (y ∷ ys) zero e l = refl
get_or-vector_sum f (x ∷ xs) (y ∷ ys) (suc k) e l = get_or-vector_sum f xs ys k (omega arith) (omega arith)

pub get_or-multiple : (f : Field) (c : ℕ) (xs : List ℕ) (k : ℕ) → k < length xs →
    get_or (multiple f c xs) k 0 ≡ times f c (get_or xs k 0)
get_or-multiple f c [] k l = absurd (omega arith)
get_or-multiple f c (x ∷ xs) zero l = refl
get_or-multiple f c (x ∷ xs) (suc k) l = get_or-multiple f c xs k (omega arith)

pub axpy_from_entries : (f : Field) (c : ℕ) (x y z : List ℕ) → length x ≡ length y → length z ≡ length y →
    ((k : ℕ) → k < length y → get_or z k 0 ≡ plus f (get_or y k 0) (times f c (get_or x k 0))) →
    z ≡ vector_sum f y (multiple f c x)
axpy_from_entries f c x y z e l h =
    ext_get_or 0 z (vector_sum f y (multiple f c x))
    (l ∙ sym e ∙ sym (length-multiple f c x) ∙ sym (length-vector_sum f y (multiple f c x) (sym e ∙ sym (length-multiple f c x))))
    (λ k lt. h k (omega arith)
    ∙ ap (λ t. plus f (get_or y k 0) t) (sym (get_or-multiple f c x k (omega arith)))
    ∙ sym (get_or-vector_sum f y (multiple f c x) k (sym e ∙ sym (length-multiple f c x))
    (let q : length (multiple f c x) ≡ length x = length-multiple f c x in omega arith)))

pub multiple_from_entries : (f : Field) (c : ℕ) (x z : List ℕ) → length z ≡ length x →
    ((k : ℕ) → k < length x → get_or z k 0 ≡ times f c (get_or x k 0)) → z ≡ multiple f c x
multiple_from_entries f c x z l h =
    ext_get_or 0 z (multiple f c x) (l ∙ sym (length-multiple f c x))
    (λ k lt. h k (omega arith) ∙ sym (get_or-multiple f c x k (omega arith)))

pub zeros_from_entries : (x : List ℕ) → ((k : ℕ) → k < length x → get_or x k 0 ≡ 0) → x ≡ zeros (length x)
zeros_from_entries x h =
    ext_get_or 0 x (zeros (length x)) (sym (length-replicate (length x) 0))
    (λ k lt. h k lt ∙ sym (get_or-replicate (length x) k 0 0 lt))

-- the entry of the sum of a multiple and a vector
pub step_entry : (f : Field) (n c : ℕ) (v w : List ℕ) (j : ℕ) → length v ≡ n → length w ≡ n → j < n →
    get_or (vector_sum f (multiple f c v) w) j 0 ≡ plus f (times f c (get_or v j 0)) (get_or w j 0)
step_entry f n c v w j p q l =
    get_or-vector_sum f (multiple f c v) w j (length-multiple f c v ∙ p ∙ sym q) (omega arith)
    ∙ ap (λ x. plus f x (get_or w j 0)) (get_or-multiple f c v j (omega arith))

-- the entry of the sum of a vector and a multiple
pub sum_entry : (f : Field) (n c : ℕ) (v w : List ℕ) (j : ℕ) → length v ≡ n → length w ≡ n → j < n →
    get_or (vector_sum f v (multiple f c w)) j 0 ≡ plus f (get_or v j 0) (times f c (get_or w j 0))
sum_entry f n c v w j p q l =
    get_or-vector_sum f v (multiple f c w) j (p ∙ sym q ∙ sym (length-multiple f c w)) (omega (arith, length-multiple f c w))
    ∙ ap (λ x. plus f (get_or v j 0) x) (get_or-multiple f c w j (omega arith))

-- adding 0 times a vector changes nothing
pub add_no_multiple : (f : Field) (c : ℕ) (x y : List ℕ) → c ≡ 0 → length x ≡ length y → AreDigits f y →
    y ≡ vector_sum f y (multiple f c x)
add_no_multiple f c x y none same digits =
    sym (vector_sum-zeros_all f y digits)
    ∙ ap (λ w. vector_sum f y w) (ap (λ n. zeros n) (sym same) ∙ sym (zero-multiple f x) ∙ ap (λ k. multiple f k x) (sym none))
