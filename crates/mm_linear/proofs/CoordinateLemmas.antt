-- Coordinates by independent rows: they combine the rows to the vector, and no other coefficients do.
use Rattle.std.proofs.Common.{ℕ, zero, suc, ◌<◌, ◌≤◌, ◌≡◌, inl, inr, Bool, true, false, cond, List, [], ◌∷◌, ◌++◌, length, map, get_or, take, drop, refl, sym, ap, ap₂, ◌∙◌, subst, arith}
use Rattle.std.proofs.lemmas.Bool.{cases_eq}
use Rattle.std.proofs.lemmas.List.{get_or_append_left, take_at}
use Rattle.std.proofs.lemmas.List.Elements.{All-nil}
use Rattle.mm_field.specs.declared.Field.{Field}
use Rattle.mm_field.specs.Digits.{order, negative}
use Rattle.mm_field.specs.Vectors.{zeros, vector_sum, multiple, combination, times_matrix, IsVector, AreVectors, InSpan, AreIndependent}
use Rattle.mm_field.proofs.Tables.{zero_digit}
use Rattle.mm_field.proofs.VectorLemmas.{vector_sum_comm, vector_sum_assoc, vector_sum-zeros, zeros-vector_sum, opposite-vector_sum, IsVector-vector_sum, IsVector-multiple}
use Rattle.mm_field.proofs.CombinationLemmas.{first_row, other_rows, combination-none, combination-vector_sum, combination-multiple, combination-times_matrix, IsVector-combination}
use Rattle.mm_field.proofs.PartLemmas.{AreVectors-map}
use Rattle.mm_linear.specs.Decide.{is_in_span}
use Rattle.mm_linear.specs.Coordinates.{minus_multiple, digit_below, coordinates, in_coordinates, IsBasis}
use Rattle.mm_linear.proofs.SpaceLemmas.{false_true}
use Rattle.mm_linear.proofs.SubspaceLemmas.{Split, split_first}
use Rattle.mm_linear.proofs.MeetTest.{is_in_span_decides}
use Rattle.mm_linear.proofs.BasisLemmas.{IsVector-cons, minus_and_plus}

pub IsVector-minus_multiple : (f : Field) (n c : ℕ) (x v : List ℕ) → length x ≡ n → length v ≡ n → IsVector f n (minus_multiple f x c v)
IsVector-minus_multiple f n c x v lx lv = IsVector-vector_sum f n x (multiple f (negative f c) v) lx (IsVector-multiple f n (negative f c) v lv).len

pub digit_below_digit : (f : Field) (n : ℕ) (rows : List (List ℕ)) (v x : List ℕ) (k : ℕ) → k ≤ order f →
    digit_below f n rows v x k < order f
unfolding digit_below
digit_below_digit f n rows v x zero l = zero_digit f
digit_below_digit f n rows v x (suc k) l =
    go (is_in_span f n rows (minus_multiple f x k v)) (digit_below_digit f n rows v x k (omega arith))
  where
    go : (b : Bool) → digit_below f n rows v x k < order f → cond b k (digit_below f n rows v x k) < order f
    go true ih = omega arith
    go false ih = ih

-- the digit that is found serves where some digit does
digit_below_serves : (f : Field) (n : ℕ) (rows : List (List ℕ)) (v x : List ℕ) → AreVectors f n rows → length v ≡ n → length x ≡ n →
    (c : ℕ) → InSpan f n rows (minus_multiple f x c v) → (k : ℕ) → c < k → InSpan f n rows (minus_multiple f x (digit_below f n rows v x k) v)
unfolding digit_below
digit_below_serves f n rows v x h lv lx c p zero l = absurd (omega arith)
digit_below_serves f n rows v x h lv lx c p (suc k) l =
    go (is_in_span f n rows (minus_multiple f x k v)) refl (λ m. digit_below_serves f n rows v x h lv lx c p k m)
  where
    go : (b : Bool) → is_in_span f n rows (minus_multiple f x k v) ≡ b → (c < k → InSpan f n rows (minus_multiple f x (digit_below f n rows v x k) v)) →
        InSpan f n rows (minus_multiple f x (cond b k (digit_below f n rows v x k)) v)
    go true t ih = (is_in_span_decides f n rows (minus_multiple f x k v) h (IsVector-minus_multiple f n k x v lx lv)).0 t
    go false t ih = elim (cases_eq c k) [
      | inl q ↦ false_true _ (sym t ∙ (is_in_span_decides f n rows (minus_multiple f x k v) h (IsVector-minus_multiple f n k x v lx lv)).1
          (subst (λ m. InSpan f n rows (minus_multiple f x m v)) q p))
      | inr ne ↦ ih (omega arith)
    ]

pub rest_is_minus_multiple : (f : Field) (n : ℕ) (v x : List ℕ) (rows : List (List ℕ)) → AreVectors f n rows → IsVector f n v →
    (s : Split f n v rows x) → InSpan f n rows (minus_multiple f x s.factor v)
rest_is_minus_multiple f n v x rows h hv s =
    let hr : IsVector f n s.rest = subst (λ u. IsVector f n u) s.in_rest.sum (IsVector-combination f n s.in_rest.coefficients rows h) in
    let hm = IsVector-multiple f n s.factor v hv.len in
    subst (λ u. InSpan f n rows u)
    (sym (minus_and_plus' f n s.factor v s.rest hr hv.len) ∙ ap (λ u. minus_multiple f u s.factor v) s.sum)
    s.in_rest
  where
    minus_and_plus' : (f : Field) (n c : ℕ) (v r : List ℕ) → IsVector f n r → length v ≡ n →
        minus_multiple f (vector_sum f (multiple f c v) r) c v ≡ r
    minus_and_plus' f n c v r hr lv =
        ap (λ u. vector_sum f u (multiple f (negative f c) v)) (vector_sum_comm f (multiple f c v) r)
        ∙ vector_sum_assoc f r (multiple f c v) (multiple f (negative f c) v)
        ∙ ap (λ u. vector_sum f r u) (vector_sum_comm f (multiple f c v) (multiple f (negative f c) v))
        ∙ sym (vector_sum_assoc f r (multiple f (negative f c) v) (multiple f c v))
        ∙ minus_and_plus f n c r v hr lv

pub IsVector-coordinates : (f : Field) (n : ℕ) (rows : List (List ℕ)) (x : List ℕ) → IsVector f (length rows) (coordinates f n rows x)
unfolding coordinates
IsVector-coordinates f n [] x = record { len = refl; digits = All-nil (λ d. d < order f) }
IsVector-coordinates f n (v ∷ rows) x =
    IsVector-cons f (length rows) (digit_below f n rows v x (order f)) (coordinates f n rows (minus_multiple f x (digit_below f n rows v x (order f)) v))
    (digit_below_digit f n rows v x (order f) (omega arith))
    (IsVector-coordinates f n rows (minus_multiple f x (digit_below f n rows v x (order f)) v))

-- the coordinates combine the rows to the vector
pub coordinates_combine : (f : Field) (n : ℕ) (rows : List (List ℕ)) (x : List ℕ) → AreVectors f n rows → IsVector f n x →
    InSpan f n rows x → combination f n (coordinates f n rows x) rows ≡ x
unfolding coordinates
coordinates_combine f n [] x h hx p = sym (combination-none f n p.coefficients) ∙ p.sum
coordinates_combine f n (v ∷ rows) x h hx p =
    let hv = first_row f n v rows h in
    let hs = other_rows f n v rows h in
    let s = split_first f n v rows x p in
    let c = digit_below f n rows v x (order f) in
    let served = digit_below_serves f n rows v x hs hv.len hx.len s.factor (rest_is_minus_multiple f n v x rows hs hv s) (order f) s.digit in
    ap (λ u. vector_sum f (multiple f c v) u)
    (coordinates_combine f n rows (minus_multiple f x c v) hs (IsVector-minus_multiple f n c x v hx.len hv.len) served)
    ∙ vector_sum_comm f (multiple f c v) (minus_multiple f x c v)
    ∙ minus_and_plus f n c x v hx hv.len

-- independent rows combine to a vector in one way
pub one_combination : (f : Field) (n : ℕ) (rows : List (List ℕ)) → AreVectors f n rows → AreIndependent f n rows →
    (cs ds : List ℕ) → IsVector f (length rows) cs → IsVector f (length rows) ds →
    combination f n cs rows ≡ combination f n ds rows → cs ≡ ds
one_combination f n rows h ind cs ds hc hd e =
    let k = length rows in
    let minus = multiple f (negative f 1) ds in
    let hm = IsVector-multiple f k (negative f 1) ds hd.len in
    let z : vector_sum f cs minus ≡ zeros k =
    ind (vector_sum f cs minus) (IsVector-vector_sum f k cs minus hc.len hm.len)
    (combination-vector_sum f n cs minus rows (hc.len ∙ sym hm.len)
    ∙ ap₂ (λ x y. vector_sum f x y) e (combination-multiple f n (negative f 1) ds rows)
    ∙ opposite-vector_sum f (combination f n ds rows) ∙ ap zeros (IsVector-combination f n ds rows h).len) in
    sym (vector_sum-zeros f k cs hc)
    ∙ ap (λ u. vector_sum f cs u) (sym (vector_sum_comm f minus ds ∙ opposite-vector_sum f ds ∙ ap zeros hd.len))
    ∙ sym (vector_sum_assoc f cs minus ds)
    ∙ ap (λ u. vector_sum f u ds) z
    ∙ zeros-vector_sum f k ds hd

-- in a basis, the coordinates of a combination are its coefficients
pub coordinates_unique : (f : Field) (n : ℕ) (rows : List (List ℕ)) → IsBasis f n rows → (cs : List ℕ) → IsVector f n cs →
    coordinates f n rows (combination f n cs rows) ≡ cs
coordinates_unique f n rows b cs hc =
    let x = combination f n cs rows in
    let hx = IsVector-combination f n cs rows b.each in
    one_combination f n rows b.each b.independent (coordinates f n rows x) cs (IsVector-coordinates f n rows x)
    (subst (λ k. IsVector f k cs) (sym b.count) hc)
    (coordinates_combine f n rows x b.each hx (b.all x hx))

pub coordinates_of : (f : Field) (n : ℕ) (rows : List (List ℕ)) → IsBasis f n rows → (x : List ℕ) → IsVector f n x →
    combination f n (coordinates f n rows x) rows ≡ x
coordinates_of f n rows b x hx = coordinates_combine f n rows x b.each hx (b.all x hx)

-- ---- the coordinates of b times a matrix

coordinates_back : (f : Field) (r : ℕ) (basis g : List (List ℕ)) → IsBasis f r basis → AreVectors f r g →
    map (times_matrix f r basis) (map (coordinates f r basis) g) ≡ g
coordinates_back f r basis [] hb hg = refl
coordinates_back f r basis (x ∷ g) hb hg =
    ap₂ (λ a b. a ∷ b) (coordinates_of f r basis hb x (first_row f r x g hg)) (coordinates_back f r basis g hb (other_rows f r x g hg))

-- in a basis, the coordinates of b times g are b times the coordinates of the rows of g
pub coordinates_times_matrix : (f : Field) (r : ℕ) (basis g : List (List ℕ)) (b : List ℕ) → IsBasis f r basis → AreVectors f r g →
    coordinates f r basis (times_matrix f r g b) ≡ times_matrix f r (map (coordinates f r basis) g) b
coordinates_times_matrix f r basis g b hb hg =
    let into : List ℕ → List ℕ = coordinates f r basis in
    let made : AreVectors f r (map into g) =
    AreVectors-map f r r into (λ x hx. subst (λ n. IsVector f n (into x)) hb.count (IsVector-coordinates f r basis x)) g hg in
    ap (λ (rows : List (List ℕ)). coordinates f r basis (combination f r b rows)) (sym (coordinates_back f r basis g hb hg))
    ∙ ap (coordinates f r basis) (combination-times_matrix f r r b (map into g) basis made hb.each)
    ∙ coordinates_unique f r basis hb (combination f r b (map into g)) (IsVector-combination f r b (map into g) made)

-- digit k, among the first r, of a column whose first r digits are exchanged for their coordinates
pub front_digit : (f : Field) (r k : ℕ) (basis : List (List ℕ)) (x y : List ℕ) → length basis ≡ r → length x ≡ r → k < r →
    get_or (in_coordinates f r basis (x ++ y)) k 0 ≡ get_or (coordinates f r basis x) k 0
front_digit f r k basis x y hb hx lk =
    let cs : List ℕ = coordinates f r basis (take r (x ++ y)) in
    let long : length cs ≡ r = (IsVector-coordinates f r basis (take r (x ++ y))).len ∙ hb in
    get_or_append_left cs (drop r (x ++ y)) 0 k (subst (λ n. k < n) (sym long) lk)
    ∙ ap (λ z. get_or (coordinates f r basis z) k 0) (take_at x y r hx)
