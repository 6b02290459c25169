-- Rows of a matrix, each times its coefficient, added one by one from the last to the first; and the rows of a join.
use Rattle.std.proofs.Common.{ℕ, suc, ◌+◌, ◌-◌, ◌<◌, ◌≤◌, ◌≡◌, List, [], ◌∷◌, ◌++◌, length, map, reverse, take, drop, sym, ap, ap₂, subst, ◌∙◌, arith, append_assoc, length-append}
use Rattle.std.specs.List.{range_with_len}
use Rattle.std.proofs.Math.Seq.{take-append_seam, drop-append-add}
use Rattle.std.proofs.lemmas.List.{drop-replicate, length-map, length-replicate, reverse-append, take-replicate}
use Rattle.mm_field.specs.declared.Field.{Field}
use Rattle.mm_field.specs.Vectors.{zeros, combination, IsVector, AreVectors}
use Rattle.mm_field.proofs.CombinationLemmas.{IsVector-combination}
use Rattle.mm_field.proofs.PartLemmas.{IsVector-append}
use Rattle.mm_logic.specs.Operator.{row_length}
use Rattle.mm_logic.specs.PresentMatrix.{column_digits}
use Rattle.mm_matrix.specs.MatrixValue.{MatrixValue}
use Rattle.mm_ops.specs.OpValue.{OpValue}
use Rattle.mm_logic.specs.PresentMatrix.{row_of}
use Rattle.mm_logic_laws.specs.MatrixLaws.{digits_at_join}
use Rattle.mm_present.specs.Joining.{ArePart, IsSide, side_row, join_row, joined_row, widened, with_digits}
use Rattle.mm_present.specs.declared.join_rows.Side.{Side}

-- ---- the rows of a join

pub side_vector : (f : Field) (r k : ℕ) (side : Side) → IsSide f r side → IsVector f side.rows.cols (side_row k side)
side_vector f r k side h =
    subst (λ g. IsVector g side.rows.cols (side_row k side)) h.field
    (IsVector-combination side.rows.f side.rows.cols (row_of side.digits.now.rows k) side.rows.rows
    (subst (λ g. AreVectors g side.rows.cols side.rows.rows) (sym h.field) h.each))

pub join_row_vector : (f : Field) (r k : ℕ) (left right : Side) → IsSide f r left → IsSide f r right →
    IsVector f (left.rows.cols + right.rows.cols) (join_row left right k)
join_row_vector f r k left right hl hr =
    IsVector-append f left.rows.cols right.rows.cols (side_row k left) (side_row k right) (side_vector f r k left hl) (side_vector f r k right hr)

-- ---- digits that are put into zeros, and other digits after them

one_put : (b l n : ℕ) (xs : List ℕ) → length xs ≡ l → with_digits b xs (zeros (b + l + n)) ≡ (zeros b ++ xs) ++ zeros n
one_put b l n xs e =
    ap (λ k. take b (zeros (b + l + n)) ++ (xs ++ drop (b + k) (zeros (b + l + n)))) e
    ∙ ap₂ (λ u v. u ++ (xs ++ v)) (take-replicate b (b + l + n) 0 (omega arith)) (drop-replicate (b + l) (b + l + n) 0 ∙ ap zeros (omega arith))
    ∙ sym (append_assoc (zeros b) xs (zeros n))

front_length : (b l : ℕ) (xs : List ℕ) → length xs ≡ l → b + l ≡ length (zeros b ++ xs)
front_length b l xs e = sym (length-append (zeros b) xs ∙ ap₂ (λ m n. m + n) (length-replicate b 0) e)

-- what stands after the first digits
after : (b l m n : ℕ) (xs : List ℕ) → length xs ≡ l → drop (b + l + m) (with_digits b xs (zeros (b + l + (m + n)))) ≡ zeros n
after b l m n xs e =
    ap (λ row. drop (b + l + m) row) (one_put b l (m + n) xs e)
    ∙ ap (λ k. drop (k + m) ((zeros b ++ xs) ++ zeros (m + n))) (front_length b l xs e)
    ∙ drop-append-add (zeros b ++ xs) (zeros (m + n)) m
    ∙ drop-replicate m (m + n) 0
    ∙ ap zeros (omega arith)

-- where the others are put there are zeros still
pub zeros_after : (b l r a : ℕ) (xs : List ℕ) → length xs ≡ l → take r (drop (b + l) (with_digits b xs (zeros (b + l + r + a)))) ≡ zeros r
zeros_after b l r a xs e =
    let n : b + l + r + a ≡ b + l + (0 + (r + a)) = omega arith in
    let from : b + l ≡ b + l + 0 = omega arith in
    ap₂ (λ i j. take r (drop i (with_digits b xs (zeros j)))) from n
    ∙ ap (λ row. take r row) (after b l 0 (r + a) xs e)
    ∙ take-replicate r (r + a) 0 (omega arith)

pub both_put : (b l r a : ℕ) (xs ys : List ℕ) → length xs ≡ l → length ys ≡ r
    → with_digits (b + l) ys (with_digits b xs (zeros (b + l + r + a))) ≡ widened b a (xs ++ ys)
both_put b l r a xs ys e d =
    let n : b + l + r + a ≡ b + l + (r + a) = omega arith in
    let front = zeros b ++ xs in
    ap (λ j. with_digits (b + l) ys (with_digits b xs (zeros j))) n
    ∙ ap (λ k. take (b + l) (with_digits b xs (zeros (b + l + (r + a)))) ++ (ys ++ drop (b + l + k) (with_digits b xs (zeros (b + l + (r + a)))))) d
    ∙ ap₂ (λ u v. u ++ (ys ++ v)) (first_digits b l (r + a) xs e) (after b l r a xs e)
    ∙ append_assoc (zeros b) xs (ys ++ zeros a)
    ∙ ap (λ v. zeros b ++ v) (sym (append_assoc xs ys (zeros a)))
  where
    first_digits : (b l n : ℕ) (xs : List ℕ) → length xs ≡ l → take (b + l) (with_digits b xs (zeros (b + l + n))) ≡ zeros b ++ xs
    first_digits b l n xs e =
        ap₂ (λ k row. take k row) (front_length b l xs e) (one_put b l n xs e) ∙ take-append_seam (zeros b ++ xs) (zeros n)

-- one more row of those from the last to the first
pub internal_step : (w : List ℕ → List ℕ) (h : ℕ → List ℕ) (t c k : ℕ) (old now new : List (List ℕ)) (row : List ℕ) → 0 < k → k ≤ c →
    now ≡ old ++ reverse (map w (map h (range_with_len (t + k) (c - k)))) → row ≡ w (h (t + (k - 1))) → new ≡ now ++ row ∷ [] →
    new ≡ old ++ reverse (map w (map h (range_with_len (t + (k - 1)) (c - (k - 1)))))
internal_step w h t c k old now new row p l e er en =
    let a = t + (k - 1) in
    let n = c - k in
    let more : c - (k - 1) ≡ suc n = omega arith in
    let next : t + k ≡ a + 1 = omega arith in
    let rest = map w (map h (range_with_len (a + 1) n)) in
    en
    ∙ ap₂ (λ x y. x ++ y ∷ []) (e ∙ ap (λ i. old ++ reverse (map w (map h (range_with_len i n)))) next) er
    ∙ append_assoc old (reverse rest) (w (h a) ∷ [])
    ∙ ap (λ x. old ++ x) (sym (reverse-append (w (h a) ∷ []) rest))
    ∙ ap (λ m. old ++ reverse (map w (map h (range_with_len a m)))) (sym more)

-- a join of children with these boundary rows
pub side_is : (op : OpValue) (t : ℕ) (m : MatrixValue) (g : List (List ℕ)) (side : Side) → ArePart op.f t m → length g ≡ t →
    (side.rows ≡ m) × (side.digits.now ≡ record { f = op.f; cols = row_length op.op; rows = digits_at_join op.f op.op g }) → IsSide op.f (row_length op.op) side
side_is op t m g side h e p = record {
  field = ap (λ (x : MatrixValue). x.f) p.0 ∙ h.field;
  digits_field = ap (λ (x : MatrixValue). x.f) p.1;
  width = ap (λ (x : MatrixValue). x.cols) p.1;
  count = ap (λ (x : MatrixValue). length x.rows) p.1 ∙ length-map g (column_digits op.f op.op) ∙ e ∙ sym h.count ∙ sym (ap (λ (x : MatrixValue). length x.rows) p.0);
  each = subst (λ (x : MatrixValue). AreVectors op.f x.cols x.rows) (sym p.0) h.each;
}

side_row_is : (op : OpValue) (m : MatrixValue) (g : List (List ℕ)) (side : Side) (k : ℕ) → m.f ≡ op.f →
    (side.rows ≡ m) × (side.digits.now ≡ record { f = op.f; cols = row_length op.op; rows = digits_at_join op.f op.op g }) →
    side_row k side ≡ combination op.f m.cols (row_of (digits_at_join op.f op.op g) k) m.rows
side_row_is op m g side k e p =
    ap₂ (λ (x d : MatrixValue). combination x.f x.cols (row_of d.rows k) x.rows) p.0 p.1
    ∙ ap (λ h. combination h m.cols (row_of (digits_at_join op.f op.op g) k) m.rows) e

pub join_row_is : (op : OpValue) (l r : MatrixValue) (left right : Side) (k : ℕ) → l.f ≡ op.f → r.f ≡ op.f →
    (left.rows ≡ l) × (left.digits.now ≡ record { f = op.f; cols = row_length op.op; rows = digits_at_join op.f op.op op.op.g1 }) →
    (right.rows ≡ r) × (right.digits.now ≡ record { f = op.f; cols = row_length op.op; rows = digits_at_join op.f op.op op.op.g2 }) →
    join_row left right k ≡ joined_row op l r k
join_row_is op l r left right k el er pl pr =
    ap₂ (λ x y. x ++ y) (side_row_is op l op.op.g1 left k el pl) (side_row_is op r op.op.g2 right k er pr)
