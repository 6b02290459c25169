-- Where the rows are the first unit vectors, the coordinates of a vector are its own digits.
use Rattle.std.proofs.Common.{ℕ, zero, suc, ◌+◌, ◌-◌, ◌<◌, ◌≤◌, ◌≡◌, Bool, true, false, not, cond, List, [], ◌∷◌, ◌++◌, length, map, get_or, refl, sym, ap, ap₂, ◌∙◌, subst, arith, filter, append_assoc}
use Rattle.std.specs.List.{range_with_len}
use Rattle.std.proofs.lemmas.List.{map-append, length-map, length-replicate}
use Rattle.std.proofs.lemmas.List.Elements.{All-nil, All-cons, filter-append}
use Rattle.std.proofs.lemmas.List.FromFn.{length-range_with_len, get_or-range_with_len}
use Rattle.std.proofs.lemmas.Bool.{false_from_ne_true}
use Rattle.mm_field.specs.declared.Field.{Field}
use Rattle.mm_field.specs.Digits.{order}
use Rattle.mm_field.specs.Vectors.{zeros, vector_sum, combination, IsVector, AreVectors, AreIndependent}
use Rattle.mm_field.proofs.Tables.{plus_zero_digit, times_one_digit}
use Rattle.mm_field.proofs.VectorLemmas.{multiple-zeros, zeros-vector_sum, IsVector-zeros}
use Rattle.mm_field.proofs.CombinationLemmas.{combination-append, combination-zeros, zeros_twice, vector_sum-append, multiple-append, IsWithin-itself}
use Rattle.mm_field.proofs.PartLemmas.{zeros-append, append_parts, IsVector-append}
use Rattle.mm_linear.specs.Coordinates.{unit, is_pivot, free_columns, completed}
use Rattle.mm_linear.specs.ReducedEchelon.{Leads}
use Rattle.mm_linear.proofs.BasisLemmas.{IsVector-unit, take-unit}
use Rattle.mm_linear.proofs.PivotLemmas.{pivots_are_leads}

abbrev pub first_units : ℕ → ℕ → List (List ℕ)
first_units r t = map (unit r) (range_with_len 0 t)

unit_rows : (f : Field) (r n k : ℕ) → k + n ≤ r → AreVectors f r (map (unit r) (range_with_len k n))
unit_rows f r zero k l = All-nil (λ v. IsVector f r v)
unit_rows f r (suc n) k l =
    All-cons (λ v. IsVector f r v) (unit r k) (map (unit r) (range_with_len (k + 1) n)) (IsVector-unit f r k (omega arith))
    (unit_rows f r n (k + 1) (omega arith))

unit_leads : (r n k : ℕ) → k + n ≤ r → Leads r k (map (unit r) (range_with_len k n)) (range_with_len k n)
unit_leads r zero k l = tt
unit_leads r (suc n) k l =
    let s : k + 1 ≡ suc k = omega arith in (
      omega arith,
      omega arith,
      take-unit r k,
      subst (λ a. Leads r a (map (unit r) (range_with_len (k + 1) n)) (range_with_len (k + 1) n)) s (unit_leads r n (k + 1) (omega arith)),
    )

in_range : (n a k i : ℕ) → i < length (range_with_len a n) → get_or (range_with_len a n) i k ≡ k → (a ≤ k) × (k < a + n)
in_range n a k i l e =
    let m : i < n = omega (arith, length-range_with_len a n) in
    let g : get_or (range_with_len a n) i k ≡ a + i = get_or-range_with_len a n i k m in
    (omega arith, omega arith)

-- the pivot columns are the first t
pivot_below : (f : Field) (r t k : ℕ) → t ≤ r → k < t → is_pivot f (first_units r t) k ≡ true
pivot_below f r t k l m =
    (pivots_are_leads f r 0 (first_units r t) (first_units r t) (range_with_len 0 t) (unit_rows f r t 0 (omega arith)) (unit_rows f r t 0 (omega arith))
    (IsWithin-itself f r (first_units r t) (unit_rows f r t 0 (omega arith)), IsWithin-itself f r (first_units r t) (unit_rows f r t 0 (omega arith)))
    (unit_leads r t 0 (omega arith)) k (omega arith)).1
    (k, omega (arith, length-range_with_len 0 t), get_or-range_with_len 0 t k k m ∙ omega arith)

pivot_above : (f : Field) (r t k : ℕ) → t ≤ r → t ≤ k → k < r → is_pivot f (first_units r t) k ≡ false
pivot_above f r t k l m n = false_from_ne_true (is_pivot f (first_units r t) k) (λ e.
    let c = (pivots_are_leads f r 0 (first_units r t) (first_units r t) (range_with_len 0 t) (unit_rows f r t 0 (omega arith)) (unit_rows f r t 0 (omega arith))
    (IsWithin-itself f r (first_units r t) (unit_rows f r t 0 (omega arith)), IsWithin-itself f r (first_units r t) (unit_rows f r t 0 (omega arith)))
    (unit_leads r t 0 (omega arith)) k n).0 e in
    let i = in_range t 0 k c.0 c.1 c.2 in
    let a : k < 0 + t = i.1 in
    omega arith)

range_parts : (a t c : ℕ) → range_with_len a (t + c) ≡ range_with_len a t ++ range_with_len (a + t) c
range_parts a zero c = ap₂ (λ x y. range_with_len x y) (let e : a ≡ a + 0 = omega arith in e) (let e : 0 + c ≡ c = omega arith in e)
range_parts a (suc t) c =
    ap (range_with_len a) (let e : suc t + c ≡ suc (t + c) = omega arith in e)
    ∙ ap (λ x. a ∷ x) (range_parts (a + 1) t c ∙ ap (λ x. range_with_len (a + 1) t ++ range_with_len x c) (let e : a + 1 + t ≡ a + suc t = omega arith in e))

filter_none : (p : ℕ → Bool) (n a : ℕ) → ((k : ℕ) → a ≤ k → k < a + n → p k ≡ false) → filter p (range_with_len a n) ≡ []
filter_none p zero a h = refl
filter_none p (suc n) a h =
    ap (λ b. cond b (a ∷ filter p (range_with_len (a + 1) n)) (filter p (range_with_len (a + 1) n))) (h a (omega arith) (omega arith))
    ∙ filter_none p n (a + 1) (λ k l m. h k (omega arith) (omega arith))

filter_all : (p : ℕ → Bool) (n a : ℕ) → ((k : ℕ) → a ≤ k → k < a + n → p k ≡ true) → filter p (range_with_len a n) ≡ range_with_len a n
filter_all p zero a h = refl
filter_all p (suc n) a h =
    ap (λ b. cond b (a ∷ filter p (range_with_len (a + 1) n)) (filter p (range_with_len (a + 1) n))) (h a (omega arith) (omega arith))
    ∙ ap (λ x. a ∷ x) (filter_all p n (a + 1) (λ k l m. h k (omega arith) (omega arith)))

free_of_units : (f : Field) (t c : ℕ) → free_columns f (t + c) (first_units (t + c) t) ≡ range_with_len t c
free_of_units f t c =
    let p = λ (k : ℕ). not (is_pivot f (first_units (t + c) t) k) in
    ap (filter p) (range_parts 0 t c)
    ∙ filter-append p (range_with_len 0 t) (range_with_len (0 + t) c)
    ∙ ap₂ (λ x y. x ++ y)
    (filter_none p t 0 (λ k l m. ap not (pivot_below f (t + c) t k (omega arith) (omega arith))))
    (filter_all p c (0 + t) (λ k l m. ap not (pivot_above f (t + c) t k (omega arith) (omega arith) (omega arith)))
    ∙ ap (λ x. range_with_len x c) (let e : 0 + t ≡ t = omega arith in e))

-- a vector is the combination of the unit vectors with its own digits
own_digits : (f : Field) (r : ℕ) (zs : List ℕ) (k n : ℕ) → IsVector f n zs → k + n ≡ r →
    combination f r zs (map (unit r) (range_with_len k n)) ≡ zeros k ++ zs
own_digits f r [] k zero h e = ap zeros (sym e) ∙ sym (zeros-append k 0)
own_digits f r [] k (suc n) h e = absurd (let a = h.len in omega arith)
own_digits f r (z ∷ zs) k zero h e = absurd (let a = h.len in omega arith)
own_digits f r (z ∷ zs) k (suc n) h e =
    let hz : IsVector f n zs = record { len = (let a = h.len in omega arith); digits = λ i d l. h.digits (suc i) d (omega arith) } in
    let m : r - suc k ≡ n = omega arith in
    let lz : z < order f = h.digits 0 0 (omega arith) in
    ap₂ (λ x y. vector_sum f x y)
    (multiple-append f z (zeros k) (1 ∷ zeros (r - suc k))
    ∙ ap₂ (λ x y. x ++ y) (multiple-zeros f z k)
    (ap₂ (λ x y. x ∷ y) (times_one_digit f z lz) (multiple-zeros f z (r - suc k) ∙ ap zeros m)))
    (own_digits f r zs (k + 1) n hz (omega arith) ∙ ap (λ x. x ++ zs) (sym (zeros-append k 1)) ∙ append_assoc (zeros k) (0 ∷ []) zs)
    ∙ vector_sum-append f (zeros k) (z ∷ zeros n) (zeros k) (0 ∷ zs) refl
    ∙ ap₂ (λ x y. x ++ y) (zeros_twice f k) (ap₂ (λ x y. x ∷ y) (plus_zero_digit f z lz) (zeros-vector_sum f n zs hz))

pub combination-first_units : (f : Field) (t c : ℕ) (x : List ℕ) → IsVector f (t + c) x →
    combination f (t + c) x (completed f (t + c) (first_units (t + c) t)) ≡ x
combination-first_units f t c x h =
    ap (λ ks. combination f (t + c) x (first_units (t + c) t ++ map (unit (t + c)) ks)) (free_of_units f t c)
    ∙ ap (combination f (t + c) x)
    (sym (map-append (unit (t + c)) (range_with_len 0 t) (range_with_len t c))
    ∙ ap (map (unit (t + c))) (sym (range_parts 0 t c ∙ ap (λ y. range_with_len 0 t ++ range_with_len y c) (let e : 0 + t ≡ t = omega arith in e))))
    ∙ own_digits f (t + c) x 0 (t + c) h (omega arith)

-- the first unit vectors are independent
pub first_units_independent : (f : Field) (t c : ℕ) → AreIndependent f (t + c) (first_units (t + c) t)
first_units_independent f t c zs each e =
    let us = first_units (t + c) t in
    let ws = map (unit (t + c)) (range_with_len t c) in
    let count : length us ≡ t = length-map (range_with_len 0 t) (unit (t + c)) ∙ length-range_with_len 0 t in
    let hz : IsVector f t zs = subst (λ n. IsVector f n zs) count each in
    let hw = unit_rows f (t + c) c t (omega arith) in
    let all : combination f (t + c) (zs ++ zeros c) (us ++ ws) ≡ zs ++ zeros c =
    ap (combination f (t + c) (zs ++ zeros c))
    (sym (map-append (unit (t + c)) (range_with_len 0 t) (range_with_len t c))
    ∙ ap (map (unit (t + c))) (sym (range_parts 0 t c ∙ ap (λ y. range_with_len 0 t ++ range_with_len y c) (let q : 0 + t ≡ t = omega arith in q))))
    ∙ own_digits f (t + c) (zs ++ zeros c) 0 (t + c) (IsVector-append f t c zs (zeros c) hz (IsVector-zeros f c)) (omega arith) in
    let parts : combination f (t + c) (zs ++ zeros c) (us ++ ws) ≡ zeros (t + c) =
    combination-append f (t + c) zs (zeros c) us ws each.len hw
    ∙ ap₂ (λ x y. vector_sum f x y) e (combination-zeros f (t + c) c ws hw)
    ∙ zeros_twice f (t + c) in
    (append_parts zs (zeros t) (zeros c) (zeros c) (hz.len ∙ sym (length-replicate t 0)) (sym all ∙ parts ∙ sym (zeros-append t c))).0
    ∙ ap zeros (sym count)

pub first_units_are : (f : Field) (t c : ℕ) → AreVectors f (t + c) (first_units (t + c) t)
first_units_are f t c = unit_rows f (t + c) t 0 (omega arith)

pub first_units_count : (r t : ℕ) → length (first_units r t) ≡ t
first_units_count r t = length-map (range_with_len 0 t) (unit r) ∙ length-range_with_len 0 t
