-- The digits of a vector in a join are read off its residue by the rows of G3 beside the negative unit matrix.
use Rattle.std.proofs.Common.{ℕ, zero, suc, ◌+◌, ◌<◌, ◌≤◌, ◌≡◌, ◌↔◌, Bool, true, false, not, cond, filter, List, [], ◌∷◌, ◌++◌, length, get_or, take, drop, map, refl, sym, ap, ap₂, subst, ◌∙◌, arith, append-nil, length-append, ext_get_or, Contains, All, rules, replicate, take_all, ◌-◌}
use Rattle.std.specs.Bool.{IsTrue}
use Rattle.std.specs.List.{range_with_len}
use Rattle.std.proofs.Math.Seq.{drop-append_seam}
use Rattle.std.proofs.lemmas.List.{length-map, take-append-le, get_or_append_left, length-take-le, take_more}
use Rattle.std.proofs.lemmas.List.Elements.{All-nil, All-cons, All-head, All-tail, All-append, filter-append}
use Rattle.std.proofs.lemmas.List.FromFn.{get_or-map-range_with_len, length-map-range_with_len, map-range_with_len_more}
use Rattle.std.proofs.lemmas.Simd.{map-map}
use Rattle.mm_field.specs.declared.Field.{Field}
use Rattle.mm_field.specs.Digits.{order, negative}
use Rattle.mm_field.specs.Vectors.{zeros, vector_sum, multiple, combination, AreDigits, IsVector, AreVectors, InSpan, AreIndependent, SameRowSpace}
use Rattle.mm_field.proofs.Tables.{times_comm}
use Rattle.mm_field.proofs.VectorLemmas.{vector_sum_comm, vector_sum_assoc, vector_sum-zeros, zeros-vector_sum, zero-multiple, opposite-vector_sum, multiple-vector_sum, multiple-times, multiple-zeros, length-multiple, IsVector-vector_sum, IsVector-multiple}
use Rattle.mm_field.proofs.CombinationLemmas.{first_row, other_rows, combination-append, combination-multiple, IsVector-combination, multiple-append, vector_sum-append, InSpan-within, IsWithin-itself}
use Rattle.mm_field.proofs.PartLemmas.{combination-map, IsVector-append, zeros-append}
use Rattle.mm_linear.specs.Coordinates.{unit, is_pivot, free_columns, completed, coordinates}
use Rattle.mm_linear.specs.Decide.{is_in_span}
use Rattle.mm_linear.specs.ReducedEchelon.{reduced_basis}
use Rattle.mm_linear.proofs.BasisLemmas.{IsVector-unit, completed_is_basis, AreVectors-free, free_count, range_one_more}
use Rattle.mm_linear.proofs.CoordinateLemmas.{coordinates_unique}
use Rattle.mm_linear.proofs.FirstUnits.{first_units, first_units_are, first_units_count, first_units_independent, combination-first_units}
use Rattle.mm_linear.proofs.ReducedEchelonLemmas.{reduced_basis_is}
use Rattle.mm_linear.proofs.PivotLemmas.{pivots_are_leads}
use Rattle.mm_matrix.specs.MatrixValue.{MatrixValue}
use Rattle.mm_matrix.specs.Residues.{AreReduced, IsResidueBy}
use Rattle.mm_matrix.proofs.FreeLemmas.{range_inside, free_inside}
use Rattle.mm_matrix.proofs.NullLemmas.{AreVectors-units}
use Rattle.mm_present.proofs.GrowLemmas.{matrix, row_pushed}
use Rattle.mm_present.proofs.TreeRows.{digit_of}
use Rattle.mm_present.specs.Bases.{beside, negative_units, augmented}

-- ---- all unit vectors

nothing : {X : Type 0} (xs : List X) → length xs ≡ 0 → xs ≡ []
nothing [] e = refl
nothing (x ∷ xs) e = absurd (omega arith)

-- a vector is the combination of all unit vectors with its own digits
own_digits : (f : Field) (t : ℕ) (x : List ℕ) → IsVector f t x → combination f t x (first_units t t) ≡ x
own_digits f t x h =
    let z : t + 0 ≡ t = omega arith in
    subst (λ (n : ℕ). combination f n x (first_units n t) ≡ x) z (all (subst (λ (n : ℕ). IsVector f n x) (sym z) h))
  where
    all : IsVector f (t + 0) x → combination f (t + 0) x (first_units (t + 0) t) ≡ x
    all hx =
        let us = first_units (t + 0) t in
        let ks = free_columns f (t + 0) us in
        let none = free_count f t 0 us (first_units_count (t + 0) t) (first_units_are f t 0) (first_units_independent f t 0) in
        ap (combination f (t + 0) x) (sym (ap (λ (js : List ℕ). us ++ map (unit (t + 0)) js) (nothing ks none) ∙ append-nil us))
        ∙ combination-first_units f t 0 x hx

-- ---- matrices side by side

beside_are : (f : Field) (r t : ℕ) (us vs : List (List ℕ)) → AreVectors f r us → AreVectors f t vs → AreVectors f (r + t) (beside us vs)
beside_are f r t [] vs hu hv = All-nil (λ v. IsVector f (r + t) v)
beside_are f r t (u ∷ us) [] hu hv = All-nil (λ v. IsVector f (r + t) v)
beside_are f r t (u ∷ us) (v ∷ vs) hu hv =
    All-cons (λ v. IsVector f (r + t) v) (u ++ v) (beside us vs) (IsVector-append f r t u v (first_row f r u us hu) (first_row f t v vs hv))
    (beside_are f r t us vs (other_rows f r u us hu) (other_rows f t v vs hv))

count_beside : (us vs : List (List ℕ)) → length us ≡ length vs → length (beside us vs) ≡ length us
count_beside [] vs e = refl
count_beside (u ∷ us) [] e = cc
count_beside (u ∷ us) (v ∷ vs) e = ap suc (count_beside us vs (omega arith))

combination-beside : (f : Field) (r t : ℕ) (cs : List ℕ) (us vs : List (List ℕ)) → length us ≡ length vs → AreVectors f r us →
    combination f (r + t) cs (beside us vs) ≡ combination f r cs us ++ combination f t cs vs
combination-beside f r t [] us vs e h = sym (zeros-append r t)
combination-beside f r t (c ∷ cs) [] [] e h = sym (zeros-append r t)
combination-beside f r t (c ∷ cs) [] (v ∷ vs) e h = cc
combination-beside f r t (c ∷ cs) (u ∷ us) [] e h = cc
combination-beside f r t (c ∷ cs) (u ∷ us) (v ∷ vs) e h =
    let hu = first_row f r u us h in
    let hs = IsVector-combination f r cs us (other_rows f r u us h) in
    ap₂ (vector_sum f) (multiple-append f c u v) (combination-beside f r t cs us vs (omega arith) (other_rows f r u us h))
    ∙ vector_sum-append f (multiple f c u) (multiple f c v) (combination f r cs us) (combination f t cs vs) (length-multiple f c u ∙ hu.len ∙ sym hs.len)

-- cut within the first matrix
cut_beside : (f : Field) (r n : ℕ) (us vs : List (List ℕ)) → n ≤ r → length us ≡ length vs → AreVectors f r us →
    map (take n) (beside us vs) ≡ map (take n) us
cut_beside f r n [] vs l e h = refl
cut_beside f r n (u ∷ us) [] l e h = cc
cut_beside f r n (u ∷ us) (v ∷ vs) l e h =
    let lu = (first_row f r u us h).len in
    ap₂ (λ w ws. w ∷ ws) (take-append-le n u v (omega arith)) (cut_beside f r n us vs l (omega arith) (other_rows f r u us h))

-- one row more
pub beside_more : (us vs : List (List ℕ)) (u v : List ℕ) → length us ≡ length vs → beside us vs ++ (u ++ v) ∷ [] ≡ beside (us ++ u ∷ []) (vs ++ v ∷ [])
beside_more [] [] u v e = refl
beside_more [] (y ∷ vs) u v e = cc
beside_more (x ∷ us) [] u v e = cc
beside_more (x ∷ us) (y ∷ vs) u v e = ap (λ ws. (x ++ y) ∷ ws) (beside_more us vs u v (omega arith))

-- ---- the negative unit matrix

negative_units_are : (f : Field) (t n a : ℕ) → a + n ≤ t → AreVectors f t (map (λ k. multiple f (negative f 1) (unit t k)) (range_with_len a n))
negative_units_are f t zero a l = All-nil (λ v. IsVector f t v)
negative_units_are f t (suc n) a l =
    All-cons (λ v. IsVector f t v) _ _ (IsVector-multiple f t (negative f 1) (unit t a) (IsVector-unit f t a (omega arith)).len)
    (negative_units_are f t n (a + 1) (omega arith))

combination-negative_units : (f : Field) (t : ℕ) (cs : List ℕ) → IsVector f t cs →
    combination f t cs (negative_units f t t) ≡ multiple f (negative f 1) cs
combination-negative_units f t cs h =
    let m = negative f 1 in
    ap (combination f t cs) (sym (map-map (multiple f m) (unit t) (range_with_len 0 t)))
    ∙ combination-map f t t (multiple f m) (λ u v hu hv. multiple-vector_sum f m u v)
    (λ c u hu. sym (multiple-times f m c u) ∙ ap (λ a. multiple f a u) (times_comm f m c) ∙ multiple-times f c m u) (multiple-zeros f m t) cs
    (first_units t t) (AreVectors-units f t (range_with_len 0 t) (range_inside t))
    ∙ ap (multiple f m) (own_digits f t cs h)

-- ---- the augmented rows

pub augmented_are : (f : Field) (r : ℕ) (g : List (List ℕ)) → AreVectors f r g → AreVectors f (r + length g) (augmented f g)
augmented_are f r g h = beside_are f r (length g) g (negative_units f (length g) (length g)) h (negative_units_are f (length g) (length g) 0 (omega arith))

count_augmented : (f : Field) (g : List (List ℕ)) → length g ≡ length (negative_units f (length g) (length g))
count_augmented f g = sym (length-map-range_with_len (λ k. multiple f (negative f 1) (unit (length g) k)) 0 (length g))

-- a pivot column of g is one of the augmented rows
pub pivot_augmented : (f : Field) (r k : ℕ) (g : List (List ℕ)) → AreVectors f r g → k < r → is_pivot f (augmented f g) k ≡ is_pivot f g k
unfolding is_pivot
pivot_augmented f r k g h l =
    ap (λ (rows : List (List ℕ)). is_in_span f (suc k) rows (zeros k ++ (1 ∷ [])))
    (cut_beside f r (suc k) g (negative_units f (length g) (length g)) (omega arith) (count_augmented f g) h)

-- one row more
pub augmented_next : (f : Field) (r t k : ℕ) (g : List (List ℕ)) (old new : MatrixValue) (row : List ℕ) → k < length g →
    old ≡ matrix f (r + t) (beside (take k g) (negative_units f t k)) → row ≡ get_or g k [] ++ multiple f (negative f 1) (unit t k) →
    new ≡ record old { rows = old.rows ++ row ∷ [] } → new ≡ matrix f (r + t) (beside (take (k + 1) g) (negative_units f t (k + 1)))
augmented_next f r t k g old new row l e er en =
    let n = length-take-le k g (omega arith) in
    let m = length-map-range_with_len (λ j. multiple f (negative f 1) (unit t j)) 0 k in
    row_pushed f (r + t) old new (beside (take k g) (negative_units f t k)) (beside (take (k + 1) g) (negative_units f t (k + 1))) row e en
    (ap (λ x. beside (take k g) (negative_units f t k) ++ x ∷ []) er
    ∙ beside_more (take k g) (negative_units f t k) (get_or g k []) (multiple f (negative f 1) (unit t k)) (omega arith)
    ∙ sym (ap₂ beside (take_more g k [] l) (map-range_with_len_more (λ j. multiple f (negative f 1) (unit t j)) 0 k k (omega arith))))

-- the next column is free where it is no lead
pub column_next : (f : Field) (g : List (List ℕ)) (leads old new : List ℕ) (k : ℕ) (b : Bool) → ((is_pivot f g k ≡ true) ↔ Contains leads k) →
    (IsTrue b ↔ Contains leads k) → old ≡ filter (λ j. not (is_pivot f g j)) (range_with_len 0 k) → new ≡ old ++ cond (not b) (k ∷ []) [] →
    new ≡ filter (λ j. not (is_pivot f g j)) (range_with_len 0 (k + 1))
column_next f g leads old new k b p q e en =
    en ∙ ap (λ x. x ++ cond (not b) (k ∷ []) []) e ∙ ap (λ c. free ++ cond (not c) (k ∷ []) []) (same b (is_pivot f g k) refl q)
    ∙ sym (ap (filter free_test) (range_one_more k) ∙ filter-append free_test (range_with_len 0 k) (k ∷ []))
  where
    free_test : ℕ → Bool
    free_test = λ j. not (is_pivot f g j)

    free : List ℕ
    free = filter free_test (range_with_len 0 k)

    same : (b c : Bool) → is_pivot f g k ≡ c → (IsTrue b ↔ Contains leads k) → b ≡ c
    same true true e q = refl
    same false false e q = refl
    same true false e q = sym (p.1 (q.0 (search rules))) ∙ e
    same false true e q = let t : IsTrue false = q.1 (p.0 e) in absurd (search rules)

-- ---- zeros outside the free columns

-- terms whose coefficient is zero may be left out
zeros_left_out : (f : Field) (r : ℕ) (u : List ℕ) (p : ℕ → Bool) (ks : List ℕ) → All (λ k. k < r) ks →
    ((k : ℕ) → k < r → p k ≡ false → get_or u k 0 ≡ 0) →
    combination f r (map (λ k. get_or u k 0) (filter p ks)) (map (unit r) (filter p ks))
    ≡ combination f r (map (λ k. get_or u k 0) ks) (map (unit r) ks)
zeros_left_out f r u p [] h z = refl
zeros_left_out f r u p (k ∷ ks) h z = go (p k) refl (zeros_left_out f r u p ks (All-tail (λ k. k < r) k ks h) z)
  where
    l : k < r
    l = All-head (λ k. k < r) k ks h

    at : List ℕ → List ℕ
    at js = combination f r (map (λ k. get_or u k 0) js) (map (unit r) js)

    go : (b : Bool) → p k ≡ b → at (filter p ks) ≡ at ks → at (cond b (k ∷ filter p ks) (filter p ks)) ≡ at (k ∷ ks)
    go true e later = ap (vector_sum f (multiple f (get_or u k 0) (unit r k))) later
    go false e later =
        later
        ∙ sym (ap (λ (a : ℕ). vector_sum f (multiple f a (unit r k)) (at ks)) (z k l e)
        ∙ ap (λ (v : List ℕ). vector_sum f v (at ks)) (zero-multiple f (unit r k) ∙ ap zeros (IsVector-unit f r k l).len)
        ∙ zeros-vector_sum f r (at ks) (IsVector-combination f r (map (λ k. get_or u k 0) ks) (map (unit r) ks) (AreVectors-units f r ks (All-tail (λ k. k < r) k ks h))))

entries : (r : ℕ) (u : List ℕ) → length u ≡ r → map (λ k. get_or u k 0) (range_with_len 0 r) ≡ u
entries r u e =
    let n = length-map-range_with_len (λ k. get_or u k 0) 0 r in
    ext_get_or 0 (map (λ k. get_or u k 0) (range_with_len 0 r)) u (n ∙ sym e)
    (λ i l. get_or-map-range_with_len (λ k. get_or u k 0) 0 r i i 0 (omega arith) (omega arith))

-- a vector with zeros at the pivot columns is combined by its digits at the free ones
free_digits : (f : Field) (r : ℕ) (g : List (List ℕ)) (u : List ℕ) → IsVector f r u → ((k : ℕ) → k < r → is_pivot f g k ≡ true → get_or u k 0 ≡ 0) →
    combination f r (map (λ k. get_or u k 0) (free_columns f r g)) (map (unit r) (free_columns f r g)) ≡ u
free_digits f r g u h z =
    zeros_left_out f r u (λ k. not (is_pivot f g k)) (range_with_len 0 r) (range_inside r) (λ k l e. z k l (turned (is_pivot f g k) e))
    ∙ ap (λ cs. combination f r cs (first_units r r)) (entries r u h.len)
    ∙ own_digits f r u h
  where
    turned : (b : Bool) → not b ≡ false → b ≡ true
    turned true e = refl
    turned false e = cc

-- ---- the digits in a join

same_at : (r : ℕ) (u ds rest : List ℕ) (ks : List ℕ) → length u ≡ r → rest ≡ u ++ ds → All (λ k. k < r) ks →
    map (λ k. get_or rest k 0) ks ≡ map (λ k. get_or u k 0) ks
same_at r u ds rest [] n e h = refl
same_at r u ds rest (k ∷ ks) n e h =
    let l = All-head (λ k. k < r) k ks h in
    ap₂ (λ a bs. a ∷ bs) (ap (λ (v : List ℕ). get_or v k 0) e ∙ get_or_append_left u ds 0 k (omega arith))
    (same_at r u ds rest ks n e (All-tail (λ k. k < r) k ks h))

digits_at : (f : Field) (u ks : List ℕ) → AreDigits f u → AreDigits f (map (λ k. get_or u k 0) ks)
digits_at f u [] h = All-nil (λ d. d < order f)
digits_at f u (k ∷ ks) h = All-cons (λ d. d < order f) _ _ (digit_of f u k h) (digits_at f u ks h)

-- the coordinates of x are read off x, followed by zeros, with a combination of the augmented rows added that makes the pivot columns zero
digits_left : (f : Field) (r : ℕ) (g : List (List ℕ)) (x part rest : List ℕ) → AreVectors f r g → AreIndependent f r g → IsVector f r x →
    InSpan f (r + length g) (augmented f g) part → vector_sum f (x ++ zeros (length g)) part ≡ rest →
    ((k : ℕ) → k < r → is_pivot f g k ≡ true → get_or rest k 0 ≡ 0) →
    drop r rest ++ map (λ k. get_or rest k 0) (free_columns f r g) ≡ coordinates f r (completed f r g) x
digits_left f r g x part rest h ind hx p e z =
    let t = length g in
    let m = negative f 1 in
    let F = free_columns f r g in
    let inside = free_inside f r g in
    let us = negative_units f t t in
    let cs = p.coefficients in
    let hc : IsVector f t cs = subst (λ n. IsVector f n cs) (count_beside g us (count_augmented f g)) p.each in
    let y = combination f r cs g in
    let hy = IsVector-combination f r cs g h in
    let ds = multiple f m cs in
    let hd = IsVector-multiple f t m cs hc.len in
    let u = vector_sum f x y in
    let hu = IsVector-vector_sum f r x y hx.len hy.len in
    let is_part : y ++ ds ≡ part =
    sym (combination-beside f r t cs g us (count_augmented f g) h ∙ ap (λ v. y ++ v) (combination-negative_units f t cs hc)) ∙ p.sum in
    let parts : rest ≡ u ++ ds =
    sym e ∙ ap (vector_sum f (x ++ zeros t)) (sym is_part) ∙ vector_sum-append f x (zeros t) y ds (hx.len ∙ sym hy.len)
    ∙ ap (λ v. u ++ v) (zeros-vector_sum f t ds hd) in
    let lu = hu.len in
    let zero : (k : ℕ) → k < r → is_pivot f g k ≡ true → get_or u k 0 ≡ 0 = λ k l q.
    sym (ap (λ (v : List ℕ). get_or v k 0) parts ∙ get_or_append_left u ds 0 k (omega arith)) ∙ z k l q in
    let ys = map (λ k. get_or u k 0) F in
    let b = completed_is_basis f r g h ind in
    let back : combination f r (ds ++ ys) (completed f r g) ≡ x =
    combination-append f r ds ys g (map (unit r) F) hd.len (AreVectors-free f r g)
    ∙ ap₂ (vector_sum f) (combination-multiple f r m cs g) (free_digits f r g u hu zero)
    ∙ vector_sum_comm f (multiple f m y) u ∙ vector_sum_assoc f x y (multiple f m y)
    ∙ ap (vector_sum f x) (opposite-vector_sum f y ∙ ap zeros hy.len) ∙ vector_sum-zeros f r x hx in
    let count = b.count in
    let n = length-append g (map (unit r) F) in
    let nf = length-map F (unit r) in
    let ny = length-map F (λ k. get_or u k 0) in
    let nw = length-append ds ys in
    let nd = hd.len in
    let whole : IsVector f r (ds ++ ys) = record { len = omega arith; digits = All-append (λ d. d < order f) ds ys hd.digits (digits_at f u F hu.digits) } in
    ap₂ (λ xs ys. xs ++ ys) (ap (drop r) parts ∙ ap (λ n. drop n (u ++ ds)) (sym lu) ∙ drop-append_seam u ds) (same_at r u ds rest F lu parts inside)
    ∙ sym (coordinates_unique f r (completed f r g) b (ds ++ ys) whole) ∙ ap (coordinates f r (completed f r g)) back

-- ---- by the reduced rows

pub pivots_found : (f : Field) (r : ℕ) (g rows : List (List ℕ)) (leads : List ℕ) → AreVectors f r g → rows ≡ reduced_basis f (r + length g) (augmented f g) →
    AreReduced f (r + length g) rows leads → (k : ℕ) → k < r → (is_pivot f g k ≡ true) ↔ Contains leads k
pivots_found f r g rows leads h e a k l =
    let n = r + length g in
    let ha = augmented_are f r g h in
    let same = subst (λ (vs : List (List ℕ)). SameRowSpace f n (augmented f g) vs) (sym e) (reduced_basis_is f n (augmented f g) ha).span in
    subst (λ b. (b ≡ true) ↔ Contains leads k) (pivot_augmented f r k g h l)
    (pivots_are_leads f n 0 (augmented f g) rows leads ha a.each same a.leads_are k (omega arith))

-- a vector followed by zeros
pub padded_is : (v : List ℕ) (n len : ℕ) (row new : List ℕ) (t : ℕ) → row ≡ v → len ≡ length row → n ≡ length v + t →
    new ≡ take n row ++ replicate (n - len) 0 → new ≡ v ++ zeros t
padded_is v n len row new t e l m h =
    let lr = ap length e in
    let rest : n - len ≡ t = omega arith in
    h ∙ ap₂ (λ u k. u ++ zeros k) (take_all n row (omega arith) ∙ e) rest

pub digits_found : (f : Field) (r : ℕ) (g : List (List ℕ)) (space : MatrixValue) (x row rest : List ℕ) → AreVectors f r g → AreIndependent f r g →
    space ≡ record { f = f; cols = r + length g; rows = reduced_basis f (r + length g) (augmented f g) } → IsVector f r x → row ≡ x ++ zeros (length g) →
    IsResidueBy space row rest → drop r rest ++ map (λ k. get_or rest k 0) (free_columns f r g) ≡ coordinates f r (completed f r g) x
digits_found f r g space x row rest h ind e hx er left =
    let n = r + length g in
    let ha = augmented_are f r g h in
    let rows = reduced_basis f n (augmented f g) in
    let b = reduced_basis_is f n (augmented f g) ha in
    let R = subst (λ (s : MatrixValue). IsResidueBy s row rest) e left in
    let reduced : AreReduced f n rows b.leads = record { each = b.each; leads_are = b.echelon; clear = b.reduced } in
    digits_left f r g x R.part rest h ind hx (InSpan-within f n rows (augmented f g) R.part ha b.span.1 R.inside)
    (ap (λ v. vector_sum f v R.part) (sym er) ∙ R.sum)
    (λ k l q. R.zero k (omega arith) ((pivots_are_leads f n 0 rows rows b.leads b.each b.each
    (IsWithin-itself f n rows b.each, IsWithin-itself f n rows b.each) b.echelon k (omega arith)).1 ((pivots_found f r g rows b.leads h refl reduced k l).0 q)))
