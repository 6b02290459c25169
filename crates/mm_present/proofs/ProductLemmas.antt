-- Products of rows with vectors in two parts, at a join and in combinations.
use Rattle.std.proofs.Common.{ℕ, ◌+◌, ◌<◌, ◌≡◌, List, [], ◌∷◌, ◌++◌, length, map, get_or, refl, sym, ap, ap₂, subst, ◌∙◌, arith, ext_get_or}
use Rattle.std.specs.List.{range_with_len}
use Rattle.std.proofs.lemmas.List.{map-append, length-map, length-replicate, get_or-map}
use Rattle.std.proofs.lemmas.List.FromFn.{length-map-range_with_len, get_or-map-range_with_len}
use Rattle.std.proofs.lemmas.Simd.{map-map}
use Rattle.mm_field.specs.declared.Field.{Field}
use Rattle.mm_field.specs.Digits.{order, plus, times}
use Rattle.mm_field.specs.Vectors.{zeros, vector_sum, multiple, combination, times_matrix, IsVector, AreVectors}
use Rattle.mm_field.proofs.Tables.{plus_assoc, plus_comm, plus_zero_digit}
use Rattle.mm_field.proofs.VectorLemmas.{get_or-vector_sum, IsVector-vector_sum}
use Rattle.mm_field.proofs.CombinationLemmas.{first_row, other_rows, IsVector-combination}
use Rattle.mm_field.proofs.PartLemmas.{AreVectors-map}
use Rattle.mm_linear.specs.Coordinates.{completed}
use Rattle.mm_linear.proofs.BasisLemmas.{completed_is_basis}
use Rattle.mm_linear.proofs.CoordinateLemmas.{IsVector-coordinates}
use Rattle.mm_logic.specs.Operator.{Op, row_length, IsValidOp}
use Rattle.mm_logic.specs.PresentMatrix.{boundary_rows, row_of, column_digits}
use Rattle.mm_logic.specs.Tree.{Tree, size, IsValid}
use Rattle.mm_logic.specs.Tree.Tree.{Join}
use Rattle.mm_logic_laws.specs.MatrixLaws.{digits_at_join}
use Rattle.mm_matrix.specs.Orthogonal.{dot}
use Rattle.mm_matrix.proofs.DotLemmas.{dot-vector_sum, dot-multiple, dot-combination, dot_below, dot-zeros, dot-comm}
use Rattle.mm_present.specs.Dependencies.{products}
use Rattle.mm_present.specs.Joining.{boundary_matrix, internal_rows, joined_row}
use Rattle.mm_present.proofs.RangeLemmas.{split_range, same_range}
use Rattle.mm_present.proofs.RankLemmas.{digit_of_sum}
use Rattle.mm_present.proofs.TreeRows.{boundary_of_join, internal_of_join, boundary_rows_are, internal_rows_are, length-boundary_rows}

-- ---- products

zero-plus : (f : Field) (xs ys : List ℕ) → dot f xs ys ≡ plus f 0 (dot f xs ys)
zero-plus f xs ys = sym (plus_comm f 0 (dot f xs ys) ∙ plus_zero_digit f (dot f xs ys) (dot_below f xs ys))

pub dot-append : (f : Field) (x y u v : List ℕ) → length x ≡ length u → dot f (x ++ y) (u ++ v) ≡ plus f (dot f x u) (dot f y v)
dot-append f [] y [] v e = zero-plus f y v
dot-append f [] y (d ∷ u) v e = cc
dot-append f (a ∷ x) y [] v e = cc
dot-append f (a ∷ x) y (d ∷ u) v e =
    ap (plus f (times f a d)) (dot-append f x y u v (omega arith)) ∙ sym (plus_assoc f (times f a d) (dot f x u) (dot f y v))

pub products-vector_sum : (f : Field) (rows : List (List ℕ)) (x y : List ℕ) → length x ≡ length y →
    products f rows (vector_sum f x y) ≡ vector_sum f (products f rows x) (products f rows y)
products-vector_sum f [] x y e = refl
products-vector_sum f (v ∷ rows) x y e =
    ap₂ (λ a b. a ∷ b)
    (dot-comm f (vector_sum f x y) v ∙ dot-vector_sum f v x y e ∙ ap₂ (plus f) (dot-comm f v x) (dot-comm f v y))
    (products-vector_sum f rows x y e)

pub products-multiple : (f : Field) (rows : List (List ℕ)) (c : ℕ) (x : List ℕ) → products f rows (multiple f c x) ≡ multiple f c (products f rows x)
products-multiple f [] c x = refl
products-multiple f (v ∷ rows) c x =
    ap₂ (λ a b. a ∷ b) (dot-comm f (multiple f c x) v ∙ dot-multiple f c v x ∙ ap (λ a. times f c a) (dot-comm f v x)) (products-multiple f rows c x)

pub products-zeros : (f : Field) (rows : List (List ℕ)) (n : ℕ) → products f rows (zeros n) ≡ zeros (length rows)
products-zeros f [] n = refl
products-zeros f (v ∷ rows) n = ap₂ (λ a b. a ∷ b) (dot-comm f (zeros n) v ∙ dot-zeros f n v) (products-zeros f rows n)

pub IsVector-products : (f : Field) (rows : List (List ℕ)) (x : List ℕ) → IsVector f (length rows) (products f rows x)
IsVector-products f rows x = record {
  len = length-map rows (dot f x);
  digits = λ i d l.
      let m = length-map rows (dot f x) in
      subst (λ a. a < order f) (sym (get_or-map (dot f x) rows i [] d (omega arith))) (dot_below f x (get_or rows i []));
}

-- ---- rows with zeros

products_left : (f : Field) (rows : List (List ℕ)) (n m : ℕ) (x y : List ℕ) → AreVectors f n rows → length x ≡ n →
    products f (map (λ row. row ++ zeros m) rows) (x ++ y) ≡ products f rows x
products_left f [] n m x y h e = refl
products_left f (v ∷ rows) n m x y h e =
    ap₂ (λ a b. a ∷ b)
    (dot-append f x y v (zeros m) (e ∙ sym (first_row f n v rows h).len)
    ∙ ap (plus f (dot f x v)) (dot-zeros f m y) ∙ plus_zero_digit f (dot f x v) (dot_below f x v))
    (products_left f rows n m x y (other_rows f n v rows h) e)

products_right : (f : Field) (rows : List (List ℕ)) (n : ℕ) (x y : List ℕ) → length x ≡ n →
    products f (map (λ row. zeros n ++ row) rows) (x ++ y) ≡ products f rows y
products_right f [] n x y e = refl
products_right f (v ∷ rows) n x y e =
    ap₂ (λ a b. a ∷ b)
    (dot-append f x y (zeros n) v (e ∙ sym (length-replicate n 0)) ∙ ap (λ a. plus f a (dot f y v)) (dot-zeros f n x) ∙ sym (zero-plus f y v))
    (products_right f rows n x y e)

-- ---- a join

-- the digits of the space of a join
abbrev pub digits_of_join : Field → Op → List ℕ → List ℕ → List ℕ
digits_of_join f op b c =
    vector_sum f (times_matrix f (row_length op) (digits_at_join f op op.g1) b) (times_matrix f (row_length op) (digits_at_join f op op.g2) c)

pub list_of_digits : (s : List ℕ) (n : ℕ) → length s ≡ n → map (λ k. get_or s k 0) (range_with_len 0 n) ≡ s
list_of_digits s n e =
    let m = length-map-range_with_len (λ k. get_or s k 0) 0 n in
    ext_get_or 0 (map (λ k. get_or s k 0) (range_with_len 0 n)) s (m ∙ sym e)
    (λ i l. get_or-map-range_with_len (λ k. get_or s k 0) 0 n i i 0 (omega arith) (omega arith))

pub digits_are : (f : Field) (op : Op) (g : List (List ℕ)) → IsValidOp f op → AreVectors f (row_length op) g → AreVectors f (row_length op) (digits_at_join f op g)
digits_are f op g ok h =
    let r = row_length op in
    let rows = completed f r op.g3 in
    let b = completed_is_basis f r op.g3 ok.third.rows ok.third.independent in
    AreVectors-map f r r (column_digits f op)
    (λ u hu. subst (λ n. IsVector f n (column_digits f op u)) b.count (IsVector-coordinates f r rows u)) g h

pub length-digits_of_join : (f : Field) (op : Op) (b c : List ℕ) → IsValidOp f op → length (digits_of_join f op b c) ≡ row_length op
length-digits_of_join f op b c ok =
    (IsVector-vector_sum f (row_length op) _ _
    (IsVector-combination f (row_length op) b (digits_at_join f op op.g1) (digits_are f op op.g1 ok ok.first.rows)).len
    (IsVector-combination f (row_length op) c (digits_at_join f op op.g2) (digits_are f op op.g2 ok ok.second.rows)).len).len

digit_at_join : (f : Field) (op : Op) (l r : Tree) (x y : List ℕ) (k : ℕ) → IsValid f (Join op l r) → length x ≡ size l → length y ≡ size r → k < row_length op →
    dot f (x ++ y) (joined_row (record { f = f; op = op }) (boundary_matrix f l) (boundary_matrix f r) k)
    ≡ get_or (digits_of_join f op (products f (boundary_rows f l) x) (products f (boundary_rows f r) y)) k 0
digit_at_join f op l r x y k ok ex ey lk =
    let n = row_length op in
    let d1 = digits_at_join f op op.g1 in
    let d2 = digits_at_join f op op.g2 in
    let v = ok.0 in
    let h1 = digits_are f op op.g1 v v.first.rows in
    let h2 = digits_are f op op.g2 v v.second.rows in
    let bl = boundary_rows f l in
    let br = boundary_rows f r in
    let p = products f bl x in
    let q = products f br y in
    let hl = boundary_rows_are f l ok.3 in
    let hr = boundary_rows_are f r ok.4 in
    let lp : length p ≡ length d1 =
    length-map bl (dot f x) ∙ length-boundary_rows f l ∙ ok.1 ∙ sym v.first.count ∙ sym (length-map op.g1 (column_digits f op)) in
    let lq : length q ≡ length d2 =
    length-map br (dot f y) ∙ length-boundary_rows f r ∙ ok.2 ∙ sym v.second.count ∙ sym (length-map op.g2 (column_digits f op)) in
    let one = IsVector-combination f n p d1 h1 in
    let two = IsVector-combination f n q d2 h2 in
    dot-append f x y (combination f (size l) (row_of d1 k) bl) (combination f (size r) (row_of d2 k) br)
    (ex ∙ sym (IsVector-combination f (size l) (row_of d1 k) bl hl).len)
    ∙ ap₂ (plus f)
    (dot-combination f (size l) x (row_of d1 k) bl hl ∙ sym (digit_of_sum f n k p d1 h1 lp lk))
    (dot-combination f (size r) y (row_of d2 k) br hr ∙ sym (digit_of_sum f n k q d2 h2 lq lk))
    ∙ sym (get_or-vector_sum f (combination f n p d1) (combination f n q d2) k (one.len ∙ sym two.len) (let e = two.len in omega arith))

-- the boundary digits and then the new internal digits
pub products_at_join : (f : Field) (op : Op) (l r : Tree) (x y : List ℕ) → IsValid f (Join op l r) → length x ≡ size l → length y ≡ size r →
    products f (boundary_rows f (Join op l r)) (x ++ y)
    ++ products f (map (joined_row (record { f = f; op = op }) (boundary_matrix f l) (boundary_matrix f r)) (range_with_len op.t3 op.c)) (x ++ y)
    ≡ digits_of_join f op (products f (boundary_rows f l) x) (products f (boundary_rows f r) y)
products_at_join f op l r x y ok ex ey =
    let row = joined_row (record { f = f; op = op }) (boundary_matrix f l) (boundary_matrix f r) in
    let n = row_length op in
    let from_zero : op.t3 ≡ 0 + op.t3 = omega arith in
    let s = digits_of_join f op (products f (boundary_rows f l) x) (products f (boundary_rows f r) y) in
    ap (λ rows. products f rows (x ++ y) ++ products f (map row (range_with_len op.t3 op.c)) (x ++ y)) (boundary_of_join f op l r ok)
    ∙ sym (map-append (dot f (x ++ y)) (map row (range_with_len 0 op.t3)) (map row (range_with_len op.t3 op.c)))
    ∙ ap (λ i. map (dot f (x ++ y)) (map row (range_with_len 0 op.t3) ++ map row (range_with_len i op.c))) from_zero
    ∙ ap (map (dot f (x ++ y))) (sym (split_range row 0 op.t3 op.c))
    ∙ map-map (dot f (x ++ y)) row (range_with_len 0 n)
    ∙ same_range (λ k. dot f (x ++ y) (row k)) (λ k. get_or s k 0) 0 n (λ k low high. digit_at_join f op l r x y k ok ex ey (omega arith))
    ∙ list_of_digits s n (length-digits_of_join f op _ _ ok.0)

-- the internal digits: the new ones, and those of the children
pub internal_at_join : (f : Field) (op : Op) (l r : Tree) (x y : List ℕ) → IsValid f (Join op l r) → length x ≡ size l → length y ≡ size r →
    products f (internal_rows f (Join op l r)) (x ++ y)
    ≡ products f (map (joined_row (record { f = f; op = op }) (boundary_matrix f l) (boundary_matrix f r)) (range_with_len op.t3 op.c)) (x ++ y)
    ++ (products f (internal_rows f l) x ++ products f (internal_rows f r) y)
internal_at_join f op l r x y ok ex ey =
    let own = map (joined_row (record { f = f; op = op }) (boundary_matrix f l) (boundary_matrix f r)) (range_with_len op.t3 op.c) in
    let a = map (λ row. row ++ zeros (size r)) (internal_rows f l) in
    let b = map (λ row. zeros (size l) ++ row) (internal_rows f r) in
    ap (λ rows. products f rows (x ++ y)) (internal_of_join f op l r ok)
    ∙ map-append (dot f (x ++ y)) own (a ++ b)
    ∙ ap (λ z. products f own (x ++ y) ++ z)
    (map-append (dot f (x ++ y)) a b
    ∙ ap₂ (λ z w. z ++ w) (products_left f (internal_rows f l) (size l) (size r) x y (internal_rows_are f l ok.3) ex)
    (products_right f (internal_rows f r) (size l) x y ex))
