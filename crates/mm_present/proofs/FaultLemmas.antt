-- The least given row outside the row space of a tree's matrix is the least place of a fault.
use Rattle.std.proofs.Common.{ℕ, ◌+◌, ◌<◌, ◌≡◌, ◌≢◌, inl, inr, not, Option, Some, None, List, [], ◌++◌, length, map, get_or, sym, ap, subst, ◌∙◌, arith, ext_get_or}
use Rattle.std.specs.List.{range_with_len, All}
use Rattle.std.proofs.lemmas.List.{length-map, length-replicate, get_or-map, get_or-replicate, get_or_past}
use Rattle.std.proofs.lemmas.Bool.{cases_lt}
use Rattle.std.proofs.lemmas.List.FromFn.{length-map-range_with_len, get_or-map-range_with_len}
use Rattle.std.proofs.lemmas.List.Elements.{All-append}
use Rattle.mm_field.specs.declared.Field.{Field}
use Rattle.mm_field.specs.Vectors.{zeros, combination, IsVector, AreVectors, InSpan}
use Rattle.mm_field.proofs.PartLemmas.{append_parts}
use Rattle.mm_linear.specs.Decide.{is_in_span}
use Rattle.mm_logic.specs.PresentMatrix.{boundary_rows, matrix_row, internal, row_of}
use Rattle.mm_logic.specs.Tree.{Tree, size, boundary, IsValid}
use Rattle.mm_matrix.specs.Columns.{column}
use Rattle.mm_matrix.specs.Orthogonal.{dot, IsOrthogonal}
use Rattle.mm_matrix.proofs.ColumnLemmas.{IsVector-column}
use Rattle.mm_matrix.proofs.DotLemmas.{dot-comm, orthogonal_to_combination}
use Rattle.mm_matrix.proofs.FreeLemmas.{zero_in_span}
use Rattle.mm_present.specs.Comparing.{first_outside}
use Rattle.mm_present.specs.Dependencies.{products, least_place, IsInner}
use Rattle.mm_present.specs.Joining.{internal_rows}
use Rattle.mm_present.proofs.AccountLemmas.{AllFaults, All-left, All-right}
use Rattle.mm_present.proofs.CompareLemmas.{position_found, position_none, inside_true, outside_true}
use Rattle.mm_present.proofs.DualityLemmas.{inside_by_kernel}
use Rattle.mm_present.proofs.LeastLemmas.{none_least, found_least}
use Rattle.mm_present.proofs.PairLemmas.{boundary_digits, length-internal_rows}
use Rattle.mm_present.proofs.RangeLemmas.{split_range, shift_range}
use Rattle.mm_present.proofs.RankLemmas.{digit_of_sum}
use Rattle.mm_present.proofs.TreeRows.{boundary_rows_are, internal_rows_are, length-boundary_rows}

-- ---- products and orthogonal vectors

pub orthogonal_of_products : (f : Field) (rows : List (List ℕ)) (n : ℕ) (x : List ℕ) → products f rows x ≡ zeros n → IsOrthogonal f rows x
orthogonal_of_products f rows n x e = λ i d l.
    let li : i < n = (let a : length (products f rows x) ≡ n = ap length e ∙ length-replicate n 0 in let b = length-map rows (dot f x) in omega arith) in
    dot-comm f (get_or rows i d) x ∙ sym (get_or-map (dot f x) rows i d 0 l) ∙ ap (λ v. get_or v i 0) e ∙ get_or-replicate n i 0 0 li

pub products_of_orthogonal : (f : Field) (rows : List (List ℕ)) (x : List ℕ) → IsOrthogonal f rows x → products f rows x ≡ zeros (length rows)
products_of_orthogonal f rows x o =
    let m = length-map rows (dot f x) in
    ext_get_or 0 (products f rows x) (zeros (length rows)) (m ∙ sym (length-replicate (length rows) 0)) (λ i l.
    get_or-map (dot f x) rows i [] 0 (omega arith) ∙ dot-comm f x (get_or rows i []) ∙ o i [] (omega arith)
    ∙ sym (get_or-replicate (length rows) i 0 0 (omega arith)))

-- ---- all rows

pub all_rows_are : (f : Field) (T : Tree) → map (matrix_row f T) (range_with_len 0 (boundary T + internal T)) ≡ boundary_rows f T ++ internal_rows f T
unfolding internal_rows
all_rows_are f T =
    let zero_b : 0 + boundary T ≡ boundary T + 0 = omega arith in
    split_range (matrix_row f T) 0 (boundary T) (internal T)
    ∙ ap (λ x. map (matrix_row f T) (range_with_len 0 (boundary T)) ++ x)
    (ap (λ i. map (matrix_row f T) (range_with_len i (internal T))) zero_b ∙ shift_range (matrix_row f T) (boundary T) 0 (internal T))

module _ (f : Field) (T : Tree) (ok : IsValid f T) where
  abbrev rows : List (List ℕ)
  rows = boundary_rows f T ++ internal_rows f T

  pub rows_are_vectors : AreVectors f (size T) rows
  rows_are_vectors = All-append (IsVector f (size T)) (boundary_rows f T) (internal_rows f T) (boundary_rows_are f T ok) (internal_rows_are f T ok)

  -- what is orthogonal to all rows is a dependency
  pub inner_of_orthogonal : (x : List ℕ) → IsVector f (size T) x → IsOrthogonal f rows x → IsInner f T x × (products f (boundary_rows f T) x ≡ zeros (boundary T))
  inner_of_orthogonal x hx o = (
    record {
      vector = hx;
      inner =
          products_of_orthogonal f (internal_rows f T) x (All-right (λ v. dot f v x ≡ 0) (boundary_rows f T) (internal_rows f T) o)
          ∙ ap zeros (length-internal_rows f T);
    },
    products_of_orthogonal f (boundary_rows f T) x (All-left (λ v. dot f v x ≡ 0) (boundary_rows f T) (internal_rows f T) o)
        ∙ ap zeros (length-boundary_rows f T),
  )

  pub orthogonal_of_inner : (x : List ℕ) → IsInner f T x → products f (boundary_rows f T) x ≡ zeros (boundary T) → IsOrthogonal f rows x
  orthogonal_of_inner x h e =
      All-append (λ v. dot f v x ≡ 0) (boundary_rows f T) (internal_rows f T)
      (orthogonal_of_products f (boundary_rows f T) (boundary T) x e) (orthogonal_of_products f (internal_rows f T) (internal T) x h.inner)

-- ---- rows by their columns

pub row_of_columns : (f : Field) (n i : ℕ) (given : List (List ℕ)) → AreVectors f n given → i < length given →
    row_of (map (column given) (range_with_len 0 n)) i ≡ get_or given i []
row_of_columns f n i given h l =
    let v = get_or given i [] in
    let hv = h i [] l in
    let cs = map (column given) (range_with_len 0 n) in
    let lc = length-map-range_with_len (column given) 0 n in
    let lr = length-map cs (λ u. get_or u i 0) in
    ext_get_or 0 (row_of cs i) v (lr ∙ lc ∙ sym hv.len) (λ j lj.
    let jn : j < n = omega arith in
    get_or-map (λ u. get_or u i 0) cs j [] 0 (omega arith)
    ∙ ap (λ u. get_or u i 0) (get_or-map-range_with_len (column given) 0 n j j [] jn (omega arith))
    ∙ get_or-map (λ w. get_or w j 0) given i [] 0 l)

pub columns_are_vectors : (f : Field) (n : ℕ) (given : List (List ℕ)) → AreVectors f n given → AreVectors f (length given) (map (column given) (range_with_len 0 n))
columns_are_vectors f n given h = λ i d l.
    let li : i < n = (let m = length-map-range_with_len (column given) 0 n in omega arith) in
    subst (IsVector f (length given)) (sym (get_or-map-range_with_len (column given) 0 n i i d li (omega arith))) (IsVector-column f n i given h li)

module _ (f : Field) (T : Tree) (ok : IsValid f T) (given faults : List (List ℕ)) (hg : AreVectors f (size T) given) where
  abbrev n : ℕ
  n = size T

  abbrev g : ℕ
  g = length given

  abbrev cs : List (List ℕ)
  cs = map (column given) (range_with_len 0 n)

  abbrev present : List (List ℕ)
  present = boundary_rows f T ++ internal_rows f T

  hcs : AreVectors f g cs
  hcs = columns_are_vectors f n given hg

  digit_is : (x : List ℕ) (i : ℕ) → IsVector f n x → i < g → dot f (get_or given i []) x ≡ get_or (combination f g x cs) i 0
  digit_is x i hx l =
      ap (λ (v : List ℕ). dot f v x) (sym (row_of_columns f n i given hg l))
      ∙ sym (digit_of_sum f g i x cs hcs (hx.len ∙ sym (length-map-range_with_len (column given) 0 n)) l)

  hp : AreVectors f n present
  hp = rows_are_vectors f T ok

  inside : AllFaults f g T cs faults → AreVectors f g faults → (i : ℕ) → i < g → All (λ (v : List ℕ). get_or v i 0 ≡ 0) faults → InSpan f n present (get_or given i [])
  inside a hf i l z =
      inside_by_kernel f n present (get_or given i []) hp (hg i [] l) (λ x hx o.
      let k = inner_of_orthogonal f T ok x hx o in
      digit_is x i hx l ∙ zero_in_span f g i faults (combination f g x cs) hf l z (a.complete x k.0 k.1))

  outside : AllFaults f g T cs faults → (i j : ℕ) → i < g → j < length faults → get_or (get_or faults j []) i 0 ≢ 0 → InSpan f n present (get_or given i []) → ⊥
  outside a i j l lj ne p =
      let v = get_or faults j [] in
      let q = a.sound j [] lj in
      let parts = append_parts (products f (boundary_rows f T) q.x) (zeros (boundary T)) (combination f g q.x cs) v
      ((boundary_digits f g T cs hcs q.x).len ∙ sym (length-replicate (boundary T) 0)) q.gives in
      let o = orthogonal_of_inner f T ok q.x q.inner parts.0 in
      ne (ap (λ (u : List ℕ). get_or u i 0) (sym parts.1) ∙ sym (digit_is q.x i q.inner.vector l)
      ∙ ap (λ (w : List ℕ). dot f w q.x) (sym p.sum) ∙ orthogonal_to_combination f n p.coefficients present q.x hp o)

  pub first_is_least : AllFaults f g T cs faults → AreVectors f g faults → (least : Option ℕ) → least ≡ least_place None faults →
      least ≡ first_outside f n given present
  first_is_least a hf None e =
      let z = (none_least None faults (sym e)).1 in
      position_none (λ row. not (is_in_span f n present row)) given [] (λ k l.
      inside_true f n present (get_or given k []) hp (hg k [] l)
      (inside a hf k l (λ j d lj. z j d lj k (let h = (hf j d lj).len in omega arith))))
  first_is_least a hf (Some i) e =
      let h = found_least None faults i (sym e) in
      elim h.from [
        | inl bad ↦ (let no_place : None ≡ Some i = bad in cc)
        | inr q ↦
            let hv = hf q.0 [] q.1 in
            let l : i < g = inside_of i (get_or faults q.0 []) hv.len q.2 in
            position_found (λ row. not (is_in_span f n present row)) given i [] l
            (outside_true f n present (get_or given i []) hp (hg i [] l) (outside a i q.0 l q.1 q.2))
            (λ k lk.
            let kg : k < g = omega arith in
            inside_true f n present (get_or given k []) hp (hg k [] kg)
            (inside a hf k kg (λ j d lj. h.before j d lj k (let hh = (hf j d lj).len in omega arith) lk)))
      ]
    where
      inside_of : (i : ℕ) (v : List ℕ) → length v ≡ g → get_or v i 0 ≢ 0 → i < g
      inside_of i v e ne = elim (cases_lt i g) [
        | inl l ↦ l
        | inr l ↦ absurd (ne (get_or_past v i 0 (omega arith)))
      ]
