-- Shares that are added one by one.
use Rattle.std.proofs.Common.{ℕ, zero, suc, ◌+◌, ◌-◌, ◌<◌, ◌≤◌, ◌≡◌, Bool, true, false, not, cond, List, [], ◌∷◌, ◌++◌, length, map, filter, get_or, drop, refl, sym, ap, ap₂, ◌∙◌, arith, add-zero, zero-add}
use Rattle.std.specs.List.{range_with_len}
use Rattle.std.proofs.Math.ListN.{set}
use Rattle.std.proofs.Math.Seq.{drop-cons}
use Rattle.std.proofs.lemmas.List.{length-map, get_or-map, drop_all, map-append}
use Rattle.std.proofs.lemmas.List.Elements.{filter-append}
use Rattle.std.proofs.lemmas.List.Elements.{All-head, All-tail}
use Rattle.mm_field.specs.declared.Field.{Field}
use Rattle.mm_field.specs.Digits.{order, plus, negative}
use Rattle.mm_field.specs.Vectors.{zeros, vector_sum, multiple, combination, AreDigits, IsVector}
use Rattle.mm_field.proofs.Tables.{times-zero, times_one_digit, plus_zero_digit}
use Rattle.mm_field.proofs.VectorLemmas.{vector_sum_assoc, vector_sum-zeros, multiple-zeros}
use Rattle.mm_linear.specs.Coordinates.{unit, is_pivot}
use Rattle.mm_matrix.specs.Orthogonal.{dot}
use Rattle.mm_matrix.specs.Projections.{units, shares, kernel_vector, kernel_vector_at, left}
use Rattle.mm_matrix.proofs.DotLemmas.{unit_later}

pub share_added : (f : Field) (c k : ℕ) (row : List ℕ) → c < order f → AreDigits f row → k < length row →
    set row k (plus f (get_or row k 0) c) ≡ vector_sum f row (multiple f c (unit (length row) k))
share_added f c k [] lc h l = absurd (omega arith)
share_added f c zero (x ∷ xs) lc h l =
    ap₂ (λ a b. a ∷ b) (ap (plus f x) (sym (times_one_digit f c lc)))
    (sym (ap (vector_sum f xs) (multiple-zeros f c (suc (length xs) - 1) ∙ ap zeros (let e : suc (length xs) - 1 ≡ length xs = omega arith in e))
    ∙ vector_sum-zeros f (length xs) xs (record { len = refl; digits = All-tail (λ d. d < order f) x xs h })))
share_added f c (suc k) (x ∷ xs) lc h l =
    let hx = All-head (λ d. d < order f) x xs h in
    ap₂ (λ a b. a ∷ b) (sym (ap (plus f x) (times-zero f c) ∙ plus_zero_digit f x hx))
    (share_added f c k xs lc (All-tail (λ d. d < order f) x xs h) (omega arith))
    ∙ ap (λ (u : List ℕ). vector_sum f (x ∷ xs) (multiple f c u)) (sym (unit_later (length xs) k))

pub share_step : (f : Field) (n i c p : ℕ) (rows : List (List ℕ)) (ks row : List ℕ) (j : ℕ) → i < length rows → i < length ks →
    get_or (shares f rows (unit n j)) i 0 ≡ c → get_or ks i 0 ≡ p →
    vector_sum f (vector_sum f row (multiple f c (unit n p))) (left f n rows ks j (i + 1)) ≡ vector_sum f row (left f n rows ks j i)
share_step f n i c p rows ks row j lr lk ec ep =
    let cs = shares f rows (unit n j) in
    let us = units n ks in
    let lc = length-map rows (λ v. negative f (dot f v (unit n j))) in
    let lu = length-map ks (unit n) in
    let dc : drop i cs ≡ get_or cs i 0 ∷ drop (i + 1) cs = (let m : i < length cs = omega arith in let s : suc i ≡ i + 1 = omega arith in drop-cons cs i 0 m ∙ ap (λ (x : ℕ). get_or cs i 0 ∷ drop x cs) s) in
    let du : drop i us ≡ get_or us i [] ∷ drop (i + 1) us = (let m : i < length us = omega arith in let s : suc i ≡ i + 1 = omega arith in drop-cons us i [] m ∙ ap (λ (x : ℕ). get_or us i [] ∷ drop x us) s) in
    vector_sum_assoc f row (multiple f c (unit n p)) (left f n rows ks j (i + 1))
    ∙ ap (vector_sum f row)
    (sym (ap₂ (combination f n) dc du
    ∙ ap₂ (λ (a : ℕ) (u : List ℕ). vector_sum f (multiple f a u) (left f n rows ks j (i + 1))) ec
    (get_or-map (unit n) ks i 0 [] lk ∙ ap (unit n) ep)))

pub shares_done : (f : Field) (n i : ℕ) (rows : List (List ℕ)) (ks row : List ℕ) (j : ℕ) → length rows ≤ i → IsVector f n row →
    vector_sum f row (left f n rows ks j i) ≡ row
shares_done f n i rows ks row j l h =
    let cs = shares f rows (unit n j) in
    let lc = length-map rows (λ v. negative f (dot f v (unit n j))) in
    ap (λ (x : List ℕ). vector_sum f row (combination f n x (drop i (units n ks)))) (drop_all i cs (omega arith))
    ∙ vector_sum-zeros f n row h

-- 1 written at column j of zeros
pub unit_written : (n j : ℕ) → j < n → set (zeros n) j 1 ≡ unit n j
unit_written zero j l = absurd (omega arith)
unit_written (suc n) zero l = ap (λ (m : ℕ). 1 ∷ zeros m) (let e : n ≡ suc n - 1 = omega arith in e)
unit_written (suc n) (suc j) l = ap (λ (u : List ℕ). 0 ∷ u) (unit_written n j (omega arith)) ∙ sym (unit_later n j)

-- ---- the rows made so far

range_more : (a m : ℕ) → range_with_len a (suc m) ≡ range_with_len a m ++ ((a + m) ∷ [])
range_more a zero = ap (λ (x : ℕ). x ∷ []) (sym (add-zero a))
range_more a (suc m) =
    ap (λ (xs : List ℕ). a ∷ xs) (range_more (a + 1) m ∙ ap (λ (x : ℕ). range_with_len (a + 1) m ++ (x ∷ [])) (let e : a + 1 + m ≡ a + suc m = omega arith in e))

abbrev pub rows_to : Field → ℕ → List (List ℕ) → List ℕ → ℕ → List (List ℕ)
rows_to f n rows ks j = map (kernel_vector f n rows ks) (filter (λ k. not (is_pivot f rows k)) (range_with_len 0 j))

pub rows_to_more : (f : Field) (n : ℕ) (rows : List (List ℕ)) (ks : List ℕ) (j : ℕ) →
    rows_to f n rows ks (j + 1) ≡ rows_to f n rows ks j ++ kernel_vector_at f n rows ks j
rows_to_more f n rows ks j =
    let p : ℕ → Bool = λ k. not (is_pivot f rows k) in
    let s : j + 1 ≡ suc j = omega arith in
    ap (rows_to f n rows ks) s
    ∙ ap (λ (xs : List ℕ). map (kernel_vector f n rows ks) (filter p xs)) (range_more 0 j ∙ ap (λ (x : ℕ). range_with_len 0 j ++ (x ∷ [])) (zero-add j))
    ∙ ap (map (kernel_vector f n rows ks)) (filter-append p (range_with_len 0 j) (j ∷ []))
    ∙ map-append (kernel_vector f n rows ks) (filter p (range_with_len 0 j)) (filter p (j ∷ []))
    ∙ ap (λ (x : List (List ℕ)). rows_to f n rows ks j ++ x) (last (is_pivot f rows j) refl)
  where
    last : (b : Bool) → is_pivot f rows j ≡ b → map (kernel_vector f n rows ks) (cond (not (is_pivot f rows j)) (j ∷ []) []) ≡ kernel_vector_at f n rows ks j
    last true e = ap (λ (b : Bool). map (kernel_vector f n rows ks) (cond (not b) (j ∷ []) [])) e ∙ sym (ap (λ (b : Bool). cond b [] (kernel_vector f n rows ks j ∷ [])) e)
    last false e = ap (λ (b : Bool). map (kernel_vector f n rows ks) (cond (not b) (j ∷ []) [])) e ∙ sym (ap (λ (b : Bool). cond b [] (kernel_vector f n rows ks j ∷ [])) e)
