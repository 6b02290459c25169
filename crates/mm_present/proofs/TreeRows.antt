-- The rows of a tree's matrix, from those of its children.
use Rattle.std.proofs.Common.{ℕ, zero, suc, ◌+◌, ◌<◌, ◌≡◌, All, List, [], ◌∷◌, ◌++◌, length, map, get_or, reverse, refl, sym, ap, ap₂, subst, ◌∙◌, arith, append_assoc, append-nil}
use Rattle.std.specs.List.{range_with_len}
use Rattle.std.proofs.lemmas.List.{map-append, length-map, reverse-append, reverse-reverse}
use Rattle.std.proofs.lemmas.List.Elements.{All-nil, All-cons, All-append}
use Rattle.std.proofs.lemmas.List.FromFn.{length-map-range_with_len}
use Rattle.std.proofs.lemmas.Simd.{map-map}
use Rattle.mm_field.specs.declared.Field.{Field}
use Rattle.mm_field.specs.Digits.{order}
use Rattle.mm_field.specs.Vectors.{zeros, IsVector, AreVectors}
use Rattle.mm_field.proofs.Tables.{zero_digit}
use Rattle.mm_field.proofs.PartLemmas.{zeros-append}
use Rattle.mm_logic_laws.proofs.MatrixLemmas.{length-columns, columns_are}
use Rattle.mm_logic_laws.proofs.RowLemmas.{internal-rows}
use Rattle.mm_logic.specs.Operator.{Op, row_length}
use Rattle.mm_logic.specs.PresentMatrix.{columns, internal, internal_row, matrix_row, row_of, boundary_rows}
use Rattle.mm_logic.specs.Tree.{Tree, size, boundary, IsValid}
use Rattle.mm_logic.specs.Tree.Tree.{Elem, Void, Join}
use Rattle.mm_matrix.specs.MatrixValue.{MatrixValue}
use Rattle.mm_present.specs.Joining.{widened, boundary_matrix, internal_rows, placed_rows, joined_row}
use Rattle.mm_present.proofs.GrowLemmas.{matrix}
use Rattle.mm_present.proofs.RangeLemmas.{split_range, shift_range, same_range, map_each}
use Rattle.mm_logic_laws.proofs.JoinMatrixLemmas.{rows_combined}

-- ---- rows are vectors

pub digit_of : (f : Field) (u : List ℕ) (k : ℕ) → ((i d : ℕ) → i < length u → get_or u i d < order f) → get_or u k 0 < order f
digit_of f [] k h = zero_digit f
digit_of f (d ∷ u) zero h = h 0 0 (omega arith)
digit_of f (d ∷ u) (suc k) h = digit_of f u k (λ i e l. h (suc i) e (omega arith))

pub row_vector : (f : Field) (n k : ℕ) (cs : List (List ℕ)) → AreVectors f n cs → IsVector f (length cs) (row_of cs k)
row_vector f n k cs h = record {
  len = length-map cs (λ u. get_or u k 0);
  digits = go cs h;
}
  where
    go : (cs : List (List ℕ)) → AreVectors f n cs → All (λ d. d < order f) (row_of cs k)
    go [] h = All-nil (λ d. d < order f)
    go (u ∷ cs) h =
        All-cons (λ d. d < order f) _ _ (digit_of f u k (h 0 [] (omega arith)).digits) (go cs (λ i d l. h (suc i) d (omega arith)))

pub rows_are : (f : Field) (T : Tree) (h : ℕ → ℕ) (a n : ℕ) → IsValid f T → AreVectors f (size T) (map (λ i. matrix_row f T (h i)) (range_with_len a n))
rows_are f T h a zero ok = All-nil (λ v. IsVector f (size T) v)
rows_are f T h a (suc n) ok =
    All-cons (λ v. IsVector f (size T) v) _ _
    (subst (λ m. IsVector f m (matrix_row f T (h a))) (length-columns f T) (row_vector f (boundary T + internal T) (h a) (columns f T) (columns_are f T ok)))
    (rows_are f T h (a + 1) n ok)

pub boundary_rows_are : (f : Field) (T : Tree) → IsValid f T → AreVectors f (size T) (boundary_rows f T)
boundary_rows_are f T ok = rows_are f T (λ i. i) 0 (boundary T) ok

pub internal_rows_are : (f : Field) (T : Tree) → IsValid f T → AreVectors f (size T) (internal_rows f T)
unfolding internal_rows
internal_rows_are f T ok = rows_are f T (λ i. boundary T + i) 0 (internal T) ok

pub length-boundary_rows : (f : Field) (T : Tree) → length (boundary_rows f T) ≡ boundary T
length-boundary_rows f T = length-map-range_with_len (row_of (columns f T)) 0 (boundary T)

-- ---- leaves

pub rows_of_element : (f : Field) (v : List ℕ) → boundary_rows f (Elem v) ≡ map (λ k. get_or v k 0 ∷ []) (range_with_len 0 (length v))
rows_of_element f v = refl

pub rows_of_void : (f : Field) (t : ℕ) → boundary_rows f (Void t) ≡ map (λ k. []) (range_with_len 0 t)
rows_of_void f t = refl

pub none_placed : (f : Field) (T : Tree) (before after : ℕ) → internal T ≡ 0 → placed_rows f before after T ≡ []
unfolding internal_rows
none_placed f T before after e = ap (λ n. map (widened before after) (map (internal_row f T) (range_with_len 0 n))) e

-- ---- a join

join_row_is : (f : Field) (op : Op) (l r : Tree) → IsValid f (Join op l r) → (k : ℕ) → k < row_length op →
    matrix_row f (Join op l r) k ≡ joined_row (record { f = f; op = op }) (boundary_matrix f l) (boundary_matrix f r) k
join_row_is f op l r ok k lk = rows_combined f op l r ok k lk

pub boundary_of_join : (f : Field) (op : Op) (l r : Tree) → IsValid f (Join op l r) →
    boundary_rows f (Join op l r) ≡ map (joined_row (record { f = f; op = op }) (boundary_matrix f l) (boundary_matrix f r)) (range_with_len 0 op.t3)
boundary_of_join f op l r ok =
    same_range (matrix_row f (Join op l r)) (joined_row (record { f = f; op = op }) (boundary_matrix f l) (boundary_matrix f r)) 0 op.t3
    (λ i low high. join_row_is f op l r ok i (omega arith))

pub internal_of_join : (f : Field) (op : Op) (l r : Tree) → IsValid f (Join op l r) →
    internal_rows f (Join op l r)
    ≡ map (joined_row (record { f = f; op = op }) (boundary_matrix f l) (boundary_matrix f r)) (range_with_len op.t3 op.c)
    ++ (map (λ row. row ++ zeros (size r)) (internal_rows f l) ++ map (λ row. zeros (size l) ++ row) (internal_rows f r))
unfolding internal_rows
internal_of_join f op l r ok =
    let row = internal_row f (Join op l r) in
    let ml = internal l in
    let mr = internal r in
    let c = op.c in
    let zero_c : 0 + c ≡ c + 0 = omega arith in
    let zero_m : 0 + ml ≡ ml + 0 = omega arith in
    let zero_t : op.t3 + 0 ≡ op.t3 = omega arith in
    split_range row 0 c (ml + mr)
    ∙ ap₂ (λ a b. a ++ b)
    (sym (shift_range (matrix_row f (Join op l r)) op.t3 0 c) ∙ ap (λ i. map (matrix_row f (Join op l r)) (range_with_len i c)) zero_t
    ∙ same_range (matrix_row f (Join op l r)) (joined_row (record { f = f; op = op }) (boundary_matrix f l) (boundary_matrix f r)) op.t3 c
    (λ i low high. join_row_is f op l r ok i high))
    (ap (λ i. map row (range_with_len i (ml + mr))) zero_c ∙ shift_range row c 0 (ml + mr)
    ∙ split_range (λ i. row (c + i)) 0 ml mr
    ∙ ap₂ (λ a b. a ++ b)
    (same_range (λ i. row (c + i)) (λ i. internal_row f l i ++ zeros (size r)) 0 ml (λ i low high. (internal-rows f op l r ok i).0 (omega arith))
    ∙ sym (map-map (λ v. v ++ zeros (size r)) (internal_row f l) (range_with_len 0 ml)))
    (ap (λ i. map (λ j. row (c + j)) (range_with_len i mr)) zero_m ∙ shift_range (λ i. row (c + i)) ml 0 mr
    ∙ same_range (λ i. row (c + (ml + i))) (λ i. zeros (size l) ++ internal_row f r i) 0 mr (λ i low high. (internal-rows f op l r ok i).1 (omega arith))
    ∙ sym (map-map (λ v. zeros (size l) ++ v) (internal_row f r) (range_with_len 0 mr))))

widened_left : (before s after : ℕ) (row : List ℕ) → widened before after (row ++ zeros s) ≡ widened before (s + after) row
widened_left before s after row = ap (λ x. zeros before ++ x) (append_assoc row (zeros s) (zeros after) ∙ ap (λ x. row ++ x) (zeros-append s after))

widened_right : (before s after : ℕ) (row : List ℕ) → widened before after (zeros s ++ row) ≡ widened (before + s) after row
widened_right before s after row =
    ap (λ x. zeros before ++ x) (append_assoc (zeros s) row (zeros after)) ∙ sym (append_assoc (zeros before) (zeros s) (row ++ zeros after))
    ∙ ap (λ x. x ++ (row ++ zeros after)) (zeros-append before s)

pub placed_of_join : (f : Field) (op : Op) (l r : Tree) (before after : ℕ) → IsValid f (Join op l r) →
    placed_rows f before after (Join op l r)
    ≡ map (widened before after) (map (joined_row (record { f = f; op = op }) (boundary_matrix f l) (boundary_matrix f r)) (range_with_len op.t3 op.c))
    ++ (placed_rows f before (size r + after) l ++ placed_rows f (before + size l) after r)
placed_of_join f op l r before after ok =
    let w = widened before after in
    let own = map (joined_row (record { f = f; op = op }) (boundary_matrix f l) (boundary_matrix f r)) (range_with_len op.t3 op.c) in
    ap (map w) (internal_of_join f op l r ok)
    ∙ map-append w own _
    ∙ ap (λ x. map w own ++ x)
    (map-append w (map (λ row. row ++ zeros (size r)) (internal_rows f l)) (map (λ row. zeros (size l) ++ row) (internal_rows f r))
    ∙ ap₂ (λ a b. a ++ b)
    (map-map w (λ row. row ++ zeros (size r)) (internal_rows f l) ∙ map_each _ _ (internal_rows f l) (widened_left before (size r) after))
    (map-map w (λ row. zeros (size l) ++ row) (internal_rows f r) ∙ map_each _ _ (internal_rows f r) (widened_right before (size l) after)))

-- what is collected at a join, the last row first
pub collected_join : (f : Field) (op : Op) (l r : Tree) (before after : ℕ) (old second first new : List (List ℕ)) → IsValid f (Join op l r) →
    second ≡ old ++ reverse (placed_rows f (before + size l) after r) →
    first ≡ second ++ reverse (placed_rows f before (size r + after) l) →
    new ≡ first ++ reverse (map (widened before after) (map (joined_row (record { f = f; op = op }) (boundary_matrix f l) (boundary_matrix f r)) (range_with_len op.t3 op.c))) →
    new ≡ old ++ reverse (placed_rows f before after (Join op l r))
collected_join f op l r before after old second first new ok es ef en =
    let own = map (widened before after) (map (joined_row (record { f = f; op = op }) (boundary_matrix f l) (boundary_matrix f r)) (range_with_len op.t3 op.c)) in
    let L = placed_rows f before (size r + after) l in
    let R = placed_rows f (before + size l) after r in
    en
    ∙ ap (λ x. x ++ reverse own) (ef ∙ ap (λ x. x ++ reverse L) es)
    ∙ append_assoc (old ++ reverse R) (reverse L) (reverse own)
    ∙ append_assoc old (reverse R) (reverse L ++ reverse own)
    ∙ ap (λ x. old ++ x)
    (sym (reverse-append own (L ++ R) ∙ ap (λ x. x ++ reverse own) (reverse-append L R) ∙ append_assoc (reverse R) (reverse L) (reverse own)))
    ∙ ap (λ x. old ++ reverse x) (sym (placed_of_join f op l r before after ok))

-- ---- the whole matrix

pub whole_rows : (f : Field) (T : Tree) →
    map (matrix_row f T) (range_with_len 0 (boundary T + internal T)) ≡ boundary_rows f T ++ placed_rows f 0 0 T
unfolding internal_rows
whole_rows f T =
    let zero_b : 0 + boundary T ≡ boundary T + 0 = omega arith in
    split_range (matrix_row f T) 0 (boundary T) (internal T)
    ∙ ap (λ x. map (matrix_row f T) (range_with_len 0 (boundary T)) ++ x)
    (ap (λ i. map (matrix_row f T) (range_with_len i (internal T))) zero_b ∙ shift_range (matrix_row f T) (boundary T) 0 (internal T)
    ∙ map_same_rows (map (internal_row f T) (range_with_len 0 (internal T))))
  where
    map_same_rows : (rows : List (List ℕ)) → rows ≡ map (widened 0 0) rows
    map_same_rows [] = refl
    map_same_rows (row ∷ rows) = ap₂ (λ v vs. v ∷ vs) (sym (append-nil row)) (map_same_rows rows)

pub placed_are : (f : Field) (T : Tree) → IsValid f T → AreVectors f (size T) (placed_rows f 0 0 T)
placed_are f T ok = go (internal_rows f T) (internal_rows_are f T ok)
  where
    go : (rows : List (List ℕ)) → AreVectors f (size T) rows → AreVectors f (size T) (map (widened 0 0) rows)
    go [] h = All-nil (λ v. IsVector f (size T) v)
    go (row ∷ rows) h =
        All-cons (λ v. IsVector f (size T) v) _ _ (subst (λ v. IsVector f (size T) v) (sym (append-nil row)) (h 0 [] (omega arith)))
        (go rows (λ i d l. h (suc i) d (omega arith)))

pub reversed_are : (f : Field) (n : ℕ) (rows : List (List ℕ)) → AreVectors f n rows → AreVectors f n (reverse rows)
reversed_are f n [] h = All-nil (λ v. IsVector f n v)
reversed_are f n (row ∷ rows) h =
    subst (λ vs. AreVectors f n vs) (sym (reverse-append (row ∷ []) rows))
    (All-append (λ v. IsVector f n v) (reverse rows) (row ∷ []) (reversed_are f n rows (λ i d l. h (suc i) d (omega arith)))
    (All-cons (λ v. IsVector f n v) row [] (h 0 [] (omega arith)) (All-nil (λ v. IsVector f n v))))

pub collected_vectors : (f : Field) (T : Tree) (m : MatrixValue) (new : List (List ℕ)) → IsValid f T → m ≡ boundary_matrix f T →
    new ≡ reverse (placed_rows f 0 0 T) → AreVectors m.f m.cols new
collected_vectors f T m new ok em en =
    subst (λ (x : MatrixValue). AreVectors x.f x.cols new) (sym em)
    (subst (λ rows. AreVectors f (size T) rows) (sym en) (reversed_are f (size T) (placed_rows f 0 0 T) (placed_are f T ok)))

pub collected_matrix : (f : Field) (T : Tree) (m whole : MatrixValue) (new : List (List ℕ)) → m ≡ boundary_matrix f T → new ≡ reverse (placed_rows f 0 0 T) →
    whole ≡ record m { rows = m.rows ++ reverse new } →
    whole ≡ record { f = f; cols = size T; rows = map (matrix_row f T) (range_with_len 0 (boundary T + internal T)) }
collected_matrix f T m whole new em en ew =
    ew
    ∙ ap (λ (x : MatrixValue). record x { rows = x.rows ++ reverse new }) em
    ∙ ap (λ rows. matrix f (size T) (boundary_rows f T ++ rows)) (ap reverse en ∙ reverse-reverse (placed_rows f 0 0 T))
    ∙ ap (matrix f (size T)) (sym (whole_rows f T))
