-- What the rows of a tree's matrix make of given columns: at a join, and of the vectors that are orthogonal to given rows.
use Rattle.std.proofs.Common.{ℕ, ◌+◌, ◌<◌, ◌≡◌, true, false, Bool, ◌&&◌, List, [], ◌∷◌, ◌++◌, length, map, get_or, refl, sym, ap, ap₂, ◌∙◌, arith}
use Rattle.std.specs.Prelude.{nat_eq}
use Rattle.std.specs.List.{range_with_len, list_all, All}
use Rattle.std.proofs.lemmas.Bool.{and_parts}
use Rattle.std.proofs.lemmas.List.{map-append, length-map, length-replicate, get_or-map, get_or-replicate}
use Rattle.std.proofs.lemmas.List.FromFn.{length-map-range_with_len}
use Rattle.std.proofs.lemmas.List.Elements.{All-nil, All-cons}
use Rattle.std.proofs.lemmas.Simd.{map-map}
use Rattle.mm_field.specs.declared.Field.{Field}
use Rattle.mm_field.specs.Vectors.{zeros, vector_sum, combination, times_matrix, IsVector, AreVectors, InSpan}
use Rattle.mm_field.proofs.VectorLemmas.{vector_sum-zeros, zeros-vector_sum}
use Rattle.mm_field.proofs.CombinationLemmas.{first_row, other_rows, combination-append, combination-zeros, combination-times_matrix, IsVector-combination}
use Rattle.mm_field.proofs.PartLemmas.{AreVectors-map}
use Rattle.mm_logic.specs.Operator.{Op, row_length}
use Rattle.mm_logic.specs.PresentMatrix.{boundary_rows, row_of, column_digits}
use Rattle.mm_logic.specs.Tree.{Tree, size, IsValid}
use Rattle.mm_logic.specs.Tree.Tree.{Join}
use Rattle.mm_logic_laws.specs.MatrixLaws.{digits_at_join}
use Rattle.mm_logic_laws.proofs.MatrixLemmas.{all_zero as zero_row}
use Rattle.mm_matrix.specs.Columns.{column}
use Rattle.mm_matrix.specs.Orthogonal.{dot, IsOrthogonal}
use Rattle.mm_matrix.proofs.DotLemmas.{dot-comm, dot-combination, all_zero as zero_dot}
use Rattle.mm_present.specs.Images.{images, are_zero}
use Rattle.mm_present.specs.Joining.{boundary_matrix, internal_rows, joined_row}
use Rattle.mm_present.proofs.FaultLemmas.{columns_are_vectors, row_of_columns}
use Rattle.mm_present.proofs.DualityLemmas.{inside_by_kernel}
use Rattle.mm_present.proofs.RangeLemmas.{split_range, same_range}
use Rattle.mm_present.proofs.RankLemmas.{digit_of_sum}
use Rattle.mm_present.proofs.TreeRows.{boundary_of_join, internal_of_join, boundary_rows_are, internal_rows_are, length-boundary_rows}

-- ---- zero rows

pub are_zero-append : (us vs : List (List ℕ)) → are_zero (us ++ vs) ≡ (are_zero us && are_zero vs)
are_zero-append [] vs = refl
are_zero-append (u ∷ us) vs = go (list_all (λ d. nat_eq d 0) u) (are_zero-append us vs)
  where
    go : (b : Bool) → are_zero (us ++ vs) ≡ (are_zero us && are_zero vs) → (b && are_zero (us ++ vs)) ≡ ((b && are_zero us) && are_zero vs)
    go true e = e
    go false e = refl

-- ---- a join

module _ (f : Field) (d : ℕ) (op : Op) (l r : Tree) (cl cr : List (List ℕ)) (ok : IsValid f (Join op l r)) (hl : AreVectors f d cl) (hr : AreVectors f d cr)
    (el : length cl ≡ size l) where
  abbrev row : ℕ → List ℕ
  row = joined_row (record { f = f; op = op }) (boundary_matrix f l) (boundary_matrix f r)

  abbrev first : List (List ℕ)
  first = digits_at_join f op op.g1

  abbrev second : List (List ℕ)
  second = digits_at_join f op op.g2

  -- the image of a row of a join
  image_of_row : (k : ℕ) →
      combination f d (column (first ++ second) k) (images f d cl (boundary_rows f l) ++ images f d cr (boundary_rows f r))
      ≡ times_matrix f d (cl ++ cr) (row k)
  image_of_row k =
      let bl = boundary_rows f l in
      let br = boundary_rows f r in
      let il = images f d cl bl in
      let ir = images f d cr br in
      let xl = row_of first k in
      let xr = row_of second k in
      let hir : AreVectors f d ir = AreVectors-map f (size r) d (times_matrix f d cr) (λ u hu. IsVector-combination f d u cr hr) br (boundary_rows_are f r ok.4) in
      let count : length xl ≡ length il =
      length-map first (λ u. get_or u k 0) ∙ length-map op.g1 (column_digits f op) ∙ ok.0.first.count ∙ sym ok.1 ∙ sym (length-boundary_rows f l)
      ∙ sym (length-map bl (times_matrix f d cl)) in
      let sl = combination f (size l) xl bl in
      let sr = combination f (size r) xr br in
      ap (λ cs. combination f d cs (il ++ ir)) (map-append (λ u. get_or u k 0) first second)
      ∙ combination-append f d xl xr il ir count hir
      ∙ ap₂ (vector_sum f) (combination-times_matrix f d (size l) xl bl cl (boundary_rows_are f l ok.3) hl)
      (combination-times_matrix f d (size r) xr br cr (boundary_rows_are f r ok.4) hr)
      ∙ sym (combination-append f d sl sr cl cr ((IsVector-combination f (size l) xl bl (boundary_rows_are f l ok.3)).len ∙ sym el) hr)

  -- the images of the boundary rows and of the new internal rows
  pub images_of_join :
      map (times_matrix f d (images f d cl (boundary_rows f l) ++ images f d cr (boundary_rows f r)))
      (map (column (first ++ second)) (range_with_len 0 (row_length op)))
      ≡ images f d (cl ++ cr) (boundary_rows f (Join op l r)) ++ images f d (cl ++ cr) (map row (range_with_len op.t3 op.c))
  images_of_join =
      let all = images f d cl (boundary_rows f l) ++ images f d cr (boundary_rows f r) in
      let both = cl ++ cr in
      let from_zero : 0 + op.t3 ≡ op.t3 = omega arith in
      map-map (times_matrix f d all) (column (first ++ second)) (range_with_len 0 (row_length op))
      ∙ same_range (λ k. combination f d (column (first ++ second) k) all) (λ k. times_matrix f d both (row k)) 0 (row_length op) (λ k low high. image_of_row k)
      ∙ sym (map-map (times_matrix f d both) row (range_with_len 0 (row_length op)))
      ∙ ap (map (times_matrix f d both)) (split_range row 0 op.t3 op.c ∙ ap (λ i. map row (range_with_len 0 op.t3) ++ map row (range_with_len i op.c)) from_zero)
      ∙ map-append (times_matrix f d both) (map row (range_with_len 0 op.t3)) (map row (range_with_len op.t3 op.c))
      ∙ ap (λ rows. images f d both rows ++ images f d both (map row (range_with_len op.t3 op.c))) (sym (boundary_of_join f op l r ok))

  padded_left : (rows : List (List ℕ)) → AreVectors f (size l) rows → images f d (cl ++ cr) (map (λ v. v ++ zeros (size r)) rows) ≡ images f d cl rows
  padded_left [] h = refl
  padded_left (v ∷ vs) h =
      let hv = first_row f (size l) v vs h in
      ap₂ (λ x xs. x ∷ xs)
      (combination-append f d v (zeros (size r)) cl cr (hv.len ∙ sym el) hr
      ∙ ap (vector_sum f (combination f d v cl)) (combination-zeros f d (size r) cr hr)
      ∙ vector_sum-zeros f d (combination f d v cl) (IsVector-combination f d v cl hl))
      (padded_left vs (other_rows f (size l) v vs h))

  padded_right : (rows : List (List ℕ)) → images f d (cl ++ cr) (map (λ v. zeros (size l) ++ v) rows) ≡ images f d cr rows
  padded_right [] = refl
  padded_right (v ∷ vs) =
      ap₂ (λ x xs. x ∷ xs)
      (combination-append f d (zeros (size l)) v cl cr (length-replicate (size l) 0 ∙ sym el) hr
      ∙ ap (λ u. vector_sum f u (combination f d v cr)) (combination-zeros f d (size l) cl hl)
      ∙ zeros-vector_sum f d (combination f d v cr) (IsVector-combination f d v cr hr))
      (padded_right vs)

  pub internal_images : images f d (cl ++ cr) (internal_rows f (Join op l r))
      ≡ images f d (cl ++ cr) (map row (range_with_len op.t3 op.c)) ++ (images f d cl (internal_rows f l) ++ images f d cr (internal_rows f r))
  internal_images =
      let both = cl ++ cr in
      let own = map row (range_with_len op.t3 op.c) in
      let a = map (λ v. v ++ zeros (size r)) (internal_rows f l) in
      let b = map (λ v. zeros (size l) ++ v) (internal_rows f r) in
      ap (images f d both) (internal_of_join f op l r ok)
      ∙ map-append (times_matrix f d both) own (a ++ b)
      ∙ ap (λ z. images f d both own ++ z)
      (map-append (times_matrix f d both) a b
      ∙ ap₂ (λ x y. x ++ y) (padded_left (internal_rows f l) (internal_rows_are f l ok.3)) (padded_right (internal_rows f r)))

-- ---- rows that make zero of all vectors that are orthogonal to given rows

pub inside_by_image : (f : Field) (n : ℕ) (given null : List (List ℕ)) (w : List ℕ) → AreVectors f n given → AreVectors f n null → IsVector f n w →
    ((x : List ℕ) → IsVector f n x → IsOrthogonal f given x → InSpan f n null x) →
    times_matrix f (length null) (map (column null) (range_with_len 0 n)) w ≡ zeros (length null) → InSpan f n given w
inside_by_image f n given null w hg hn hw all e =
    let cs = map (column null) (range_with_len 0 n) in
    let d = length null in
    let hcs = columns_are_vectors f n null hn in
    let zero : (i : ℕ) → i < d → dot f w (get_or null i []) ≡ 0 =
    (λ i l. dot-comm f w (get_or null i []) ∙ ap (λ (v : List ℕ). dot f v w) (sym (row_of_columns f n i null hn l))
    ∙ sym (digit_of_sum f d i w cs hcs (hw.len ∙ sym (length-map-range_with_len (column null) 0 n)) l)
    ∙ ap (λ v. get_or v i 0) e ∙ get_or-replicate d i 0 0 l) in
    inside_by_kernel f n given w hg hw (λ x hx o.
    let p = all x hx o in
    ap (dot f w) (sym p.sum) ∙ dot-combination f n w p.coefficients null hn ∙ zero_dot f p.coefficients (map (dot f w) null)
    (λ i c l. let m : i < d = (let k = length-map null (dot f w) in omega arith) in get_or-map (dot f w) null i [] c m ∙ zero i m))

-- rows whose images are zero
pub all_inside : (f : Field) (n : ℕ) (given null : List (List ℕ)) → AreVectors f n given → AreVectors f n null →
    ((x : List ℕ) → IsVector f n x → IsOrthogonal f given x → InSpan f n null x) → (rows : List (List ℕ)) → AreVectors f n rows →
    are_zero (images f (length null) (map (column null) (range_with_len 0 n)) rows) ≡ true → All (InSpan f n given) rows
all_inside f n given null hg hn all [] h e = All-nil (InSpan f n given)
all_inside f n given null hg hn all (w ∷ ws) h e =
    let cs = map (column null) (range_with_len 0 n) in
    let d = length null in
    let parts = and_parts (list_all (λ a. nat_eq a 0) (times_matrix f d cs w)) (are_zero (images f d cs ws)) e in
    let hw = first_row f n w ws h in
    let zero : times_matrix f d cs w ≡ zeros d =
    zero_row (times_matrix f d cs w) parts.0 ∙ ap zeros (IsVector-combination f d w cs (columns_are_vectors f n null hn)).len in
    All-cons (InSpan f n given) w ws (inside_by_image f n given null w hg hn hw all zero)
    (all_inside f n given null hg hn all ws (other_rows f n w ws h) parts.1)
