-- A tree of the shape of a parse tree is as narrow for the dual: no boundary is above that of the given tree.
use Rattle.std.proofs.Common.{ℕ, ℤ, suc, ◌+◌, ◌<◌, ◌≤◌, ◌≡◌, List, [], ◌∷◌, ◌++◌, length, map, take, drop, get_or, Option, Some, None, refl, sym, ap, ap₂, ◌∙◌, subst, arith, append-nil, length-append, length-take-le, take-append-drop, ext_get_or, zero-add}
use Rattle.std.specs.List.{All, range_with_len}
use Rattle.std.specs.Prelude.{Bool, true, false, nat_lt, ◌-◌}
use Rattle.std.proofs.Common.{get_or-take}
use Rattle.std.proofs.lemmas.Bool.{ltb-true, ltb-false}
use Rattle.std.proofs.lemmas.List.{length-map, get_or-map, get_or-replicate, length-replicate, map-append, take_at, drop_at}
use Rattle.std.proofs.lemmas.List.FromFn.{get_or-range_with_len, length-range_with_len}
use Rattle.std.proofs.lemmas.List.Elements.{All-nil, All-cons, All-append, All-take, All-drop}
use Rattle.mm_field.specs.declared.Field.{Field}
use Rattle.mm_field.specs.Vectors.{zeros, vector_sum, combination, times_matrix, IsVector, AreVectors, InSpan, IsWithin}
use Rattle.mm_field.proofs.VectorLemmas.{vector_sum-zeros, zeros-vector_sum}
use Rattle.mm_field.proofs.CombinationLemmas.{combination-append, combination-zeros, InSpan-combination, InSpan-zeros, IsVector-combination, IsWithin-itself, IsWithin-within}
use Rattle.mm_linear.specs.ReducedEchelon.{reduced_basis}
use Rattle.mm_linear.proofs.ReducedEchelonLemmas.{reduced_basis_is, reduced_basis-twice}
use Rattle.mm_logic.specs.Operator.{Op}
use Rattle.mm_logic.specs.PresentMatrix.{columns, internal, internal_row}
use Rattle.mm_logic.specs.Tree as trees
use Rattle.mm_logic.specs.Tree.{boundary, size, IsValid}
use Rattle.mm_logic_laws.proofs.MatrixLemmas.{columns_are, length-columns}
use Rattle.mm_logic_laws.proofs.RowLemmas.{internal-rows}
use Rattle.mm_matrix.specs.Columns.{column}
use Rattle.mm_matrix.proofs.FreeLemmas.{range_inside}
use Rattle.mm_tree.specs.NamedTree.{Tree, shape, element_names}
use Rattle.mm_tree.specs.NamedTree.Tree.{Elem, Void, Join}
use Rattle.mm_tree.proofs.ElementLemmas.{count_elements}
use Rattle.mm_decomp.specs.Forms.{all_columns, products, IsProduct}
use Rattle.mm_decomp.specs.Meets.{meet}
use Rattle.mm_decomp.specs.Shapes.{Shape, names}
use Rattle.mm_decomp.specs.Shapes as shapes
use Rattle.mm_decomp.specs.Spaces.{Given, boundaries, column_of, space}
use Rattle.mm_decomp.specs.TreeShapes.{element_shape, joined}
use Rattle.mm_decomp.proofs.ChildRowLemmas.{IsRow, rows_of_children}
use Rattle.mm_decomp.proofs.CutLemmas.{IsCut, cut_left, cut_right}
use Rattle.mm_decomp.proofs.FormLemmas.{AreVectors-images, combination_of_products, length-products, meet_of_cut}
use Rattle.mm_decomp.proofs.OperatorLemmas.{basis_independent}
use Rattle.mm_decomp.proofs.RankLemmas.{basis_is_few, few_independent}
use Rattle.mm_decomp.proofs.TreeShapeLemmas.{names_if, same_names}

-- ---- the space of a node

-- The internal rows of a tree are dependencies of these columns.
abbrev pub AreInner : Field → ℕ → trees.Tree → List (List ℕ) → Type 0
AreInner f k T ms = (i : ℕ) → i < internal T → combination f k (internal_row f T i) ms ≡ zeros k

-- where the rows after the first t are zero, the first t span all
front_rows : (f : Field) (n t : ℕ) (rows : List (List ℕ)) → AreVectors f n rows → t ≤ length rows →
    ((i : ℕ) (d : List ℕ) → i < length rows → t ≤ i → get_or rows i d ≡ zeros n) → IsWithin f n rows (take t rows)
front_rows f n t rows h lt none = λ i d l. go i d l (nat_lt i t) refl
  where
    hf : AreVectors f n (take t rows)
    hf = All-take (λ v. IsVector f n v) t rows h

    go : (i : ℕ) (d : List ℕ) → i < length rows → (b : Bool) → nat_lt i t ≡ b → InSpan f n (take t rows) (get_or rows i d)
    go i d l true e =
        let li : i < t = ltb-true i t e in
        let long = length-take-le t rows lt in
        subst (λ v. InSpan f n (take t rows) v) (get_or-take t rows i d li) (IsWithin-itself f n (take t rows) hf i d (omega arith))
    go i d l false e = subst (λ v. InSpan f n (take t rows) v) (sym (none i d l (ltb-false i t e))) (InSpan-zeros f n (take t rows) hf)

product_at : (f : Field) (w k : ℕ) (hs ms : List (List ℕ)) (j : ℕ) (d : List ℕ) → j < w → get_or (products f w k hs ms) j d ≡ combination f k (column hs j) ms
product_at f w k hs ms j d l =
    let lr = length-range_with_len 0 w in
    let lc = length-map (range_with_len 0 w) (column hs) in
    get_or-map (times_matrix f k ms) (all_columns w hs) j [] d (omega arith)
    ∙ ap (times_matrix f k ms)
    (get_or-map (column hs) (range_with_len 0 w) j 0 [] (omega arith) ∙ ap (column hs) (get_or-range_with_len 0 w j 0 l ∙ zero-add j))

pub space_narrow : (f : Field) (w k : ℕ) (T : trees.Tree) (hs ms : List (List ℕ)) → IsValid f T → AreVectors f k ms →
    ((j : ℕ) → j < w → IsRow f T (column hs j)) → AreInner f k T ms → length (reduced_basis f k (products f w k hs ms)) ≤ boundary T
space_narrow f w k T hs ms ok hm rows inner =
    let t = boundary T in
    let m = internal T in
    let Ds = columns f T in
    let hD = columns_are f T ok in
    let P = products f (t + m) k Ds ms in
    let hP = AreVectors-images f k ms (all_columns (t + m) Ds) hm in
    let lP = length-products f (t + m) k Ds ms in
    let Q = products f w k hs ms in
    let hQ = AreVectors-images f k ms (all_columns w hs) hm in
    let lQ = length-products f w k hs ms in
    let W = take t P in
    let hW = All-take (λ v. IsVector f k v) t P hP in
    let zero_row : (i : ℕ) (d : List ℕ) → i < length P → t ≤ i → get_or P i d ≡ zeros k =
    (λ i d l le.
    let e : i ≡ t + (i - t) = omega arith in
    let li : i - t < m = omega arith in
    product_at f (t + m) k Ds ms i d (omega arith) ∙ ap (λ (n : ℕ). combination f k (column Ds n) ms) e ∙ inner (i - t) li) in
    let p_in = front_rows f k t P hP (omega arith) zero_row in
    let q_in : IsWithin f k Q W =
    (λ j d l.
    let lj : j < w = omega arith in
    let p = rows j lj in
    subst (λ v. InSpan f k W v)
    (combination_of_products f (t + m) k Ds ms p.a hD hm p.vector.len
    ∙ ap (λ (x : List ℕ). combination f k x ms) p.products ∙ sym (product_at f w k hs ms j d lj))
    (InSpan-combination f k p.a P W hW p_in)) in
    let basis = reduced_basis f k Q in
    let b = reduced_basis_is f k Q hQ in
    let few = few_independent f k basis W b.each hW (basis_independent f k basis (reduced_basis-twice f k Q hQ)) (IsWithin-within f k basis Q W hW b.span.1 q_in) in
    let long = length-take-le t P (omega arith) in
    omega (arith, few, long)

-- ---- the nodes of the given tree

-- What is known at a node: below it and outside it the columns of the dual have their dependencies by the columns of the whole tree.
-- There the rows of the whole tree are combinations of those of the node, and the internal rows of the node are dependencies.
pub record IsInDual (D : Given) (w : ℕ) (N : Tree) (hs ho outside : List (List ℕ)) : Type 0 where
  pub valid : IsValid D.f (shape N)
  pub each : AreVectors D.f w hs
  pub each_column : AreVectors D.f (length D.rows) (map (column_of D) (element_names N))
  pub each_outside : AreVectors D.f (length D.rows) (map (column_of D) outside)
  pub cut : IsCut D.f w (length D.rows) hs (map (column_of D) (element_names N)) ho (map (column_of D) outside)
  pub rows : (j : ℕ) → j < w → IsRow D.f (shape N) (column hs j)
  pub inner : AreInner D.f (length D.rows) (shape N) (map (column_of D) (element_names N))

-- columns of names side by side
both_parts : (f : Field) (k : ℕ) (A B : List (List ℕ)) → AreVectors f k (A ++ B) → AreVectors f k A × AreVectors f k B
both_parts f k A B h = (
  subst (λ vs. AreVectors f k vs) (take_at A B (length A) refl) (All-take (λ v. IsVector f k v) (length A) (A ++ B) h),
  subst (λ vs. AreVectors f k vs) (drop_at A B (length A) refl) (All-drop (λ v. IsVector f k v) (length A) (A ++ B) h),
)

module _ (D : Given) (w : ℕ) (op : Op) (l r : Tree) (hs ho outside : List (List ℕ))
    (valid : IsValid D.f (trees.Tree.Join op (shape l) (shape r)))
    (each : AreVectors D.f w hs)
    (each_column : AreVectors D.f (length D.rows) (map (column_of D) (element_names l ++ element_names r)))
    (each_outside : AreVectors D.f (length D.rows) (map (column_of D) outside))
    (cut : IsCut D.f w (length D.rows) hs (map (column_of D) (element_names l ++ element_names r)) ho (map (column_of D) outside))
    (rows : (j : ℕ) → j < w → IsRow D.f (trees.Tree.Join op (shape l) (shape r)) (column hs j))
    (inner : AreInner D.f (length D.rows) (trees.Tree.Join op (shape l) (shape r)) (map (column_of D) (element_names l ++ element_names r))) where
  abbrev f : Field
  f = D.f

  abbrev k : ℕ
  k = length D.rows

  abbrev n : ℕ
  n = size (shape l)

  abbrev hl : List (List ℕ)
  hl = take n hs

  abbrev hr : List (List ℕ)
  hr = drop n hs

  abbrev ml : List (List ℕ)
  ml = map (column_of D) (element_names l)

  abbrev mr : List (List ℕ)
  mr = map (column_of D) (element_names r)

  abbrev mo : List (List ℕ)
  mo = map (column_of D) outside

  whole : hl ++ hr ≡ hs
  whole = take-append-drop n hs

  apart : map (column_of D) (element_names l ++ element_names r) ≡ ml ++ mr
  apart = map-append (column_of D) (element_names l) (element_names r)

  parts : AreVectors f k ml × AreVectors f k mr
  parts = both_parts f k ml mr (subst (λ vs. AreVectors f k vs) apart each_column)

  count_left : length ml ≡ n
  count_left = length-map (element_names l) (column_of D) ∙ count_elements l

  count_right : length mr ≡ size (shape r)
  count_right = length-map (element_names r) (column_of D) ∙ count_elements r

  count_all : length hs ≡ n + size (shape r)
  count_all = cut.count ∙ ap length apart ∙ length-append ml mr ∙ ap₂ (λ a b. a + b) count_left count_right

  long_left : length hl ≡ n
  long_left = length-take-le n hs (omega (arith, count_all))

  long_right : length hr ≡ size (shape r)
  long_right = let a = ap length whole in let b = length-append hl hr in omega (arith, a, b, long_left, count_all)

  cut_apart : IsCut f w k (hl ++ hr) (ml ++ mr) ho mo
  cut_apart = subst (λ vs. IsCut f w k vs (ml ++ mr) ho mo) (sym whole) (subst (λ vs. IsCut f w k hs vs ho mo) apart cut)

  row_parts : (j : ℕ) → j < w → IsRow f (shape l) (column hl j) × IsRow f (shape r) (column hr j)
  row_parts j lj =
      rows_of_children f op (shape l) (shape r) (column hl j) (column hr j) valid (length-map hl (λ v. get_or v j 0) ∙ long_left)
      (subst (λ x. IsRow f (trees.Tree.Join op (shape l) (shape r)) x) (sym (ap (λ (vs : List (List ℕ)). column vs j) whole) ∙ map-append (λ (v : List ℕ). get_or v j 0) hl hr) (rows j lj))

  pub left_in_dual : IsInDual D w l hl (ho ++ hr) (outside ++ element_names r)
  left_in_dual =
      let eo = map-append (column_of D) outside (element_names r) in
      record {
        valid = valid.3;
        each = All-take (λ v. IsVector f w v) n hs each;
        each_column = parts.0;
        each_outside = subst (λ vs. AreVectors f k vs) (sym eo) (All-append (λ v. IsVector f k v) mo mr each_outside parts.1);
        cut =
            subst (λ vs. IsCut f w k hl ml (ho ++ hr) vs) (sym eo)
            (cut_left f w k hl ml hr mr ho mo parts.0 parts.1 each_outside (long_left ∙ sym count_left) (long_right ∙ sym count_right) cut_apart);
        rows = λ j lj. (row_parts j lj).0;
        inner = λ i li.
            let x = internal_row f (shape l) i in
            let lx : length x ≡ length ml = length-map (columns f (shape l)) (λ u. get_or u (boundary (shape l) + i) 0) ∙ length-columns f (shape l) ∙ sym count_left in
            sym (combination-append f k x (zeros (size (shape r))) ml mr lx parts.1
            ∙ ap (vector_sum f (combination f k x ml)) (combination-zeros f k (size (shape r)) mr parts.1)
            ∙ vector_sum-zeros f k (combination f k x ml) (IsVector-combination f k x ml parts.0))
            ∙ sym (ap₂ (λ (u : List ℕ) (vs : List (List ℕ)). combination f k u vs) ((internal-rows f op (shape l) (shape r) valid i).0 li) apart)
            ∙ inner (op.c + i) (omega arith);
      }

  pub right_in_dual : IsInDual D w r hr (ho ++ hl) (outside ++ element_names l)
  right_in_dual =
      let eo = map-append (column_of D) outside (element_names l) in
      record {
        valid = valid.4;
        each = All-drop (λ v. IsVector f w v) n hs each;
        each_column = parts.1;
        each_outside = subst (λ vs. AreVectors f k vs) (sym eo) (All-append (λ v. IsVector f k v) mo ml each_outside parts.0);
        cut =
            subst (λ vs. IsCut f w k hr mr (ho ++ hl) vs) (sym eo)
            (cut_right f w k hl ml hr mr ho mo parts.0 parts.1 each_outside (long_left ∙ sym count_left) (long_right ∙ sym count_right) cut_apart);
        rows = λ j lj. (row_parts j lj).1;
        inner = λ i li.
            let x = internal_row f (shape r) i in
            sym (combination-append f k (zeros n) x ml mr (length-replicate n 0 ∙ sym count_left) parts.1
            ∙ ap (λ (u : List ℕ). vector_sum f u (combination f k x mr)) (combination-zeros f k n ml parts.0)
            ∙ zeros-vector_sum f k (combination f k x mr) (IsVector-combination f k x mr parts.1))
            ∙ sym (ap₂ (λ (u : List ℕ) (vs : List (List ℕ)). combination f k u vs) ((internal-rows f op (shape l) (shape r) valid i).1 li) apart)
            ∙ inner (op.c + (internal (shape l) + i)) (omega arith);
      }

  pub join_narrow : length (meet f k (map (column_of D) (element_names l ++ element_names r)) mo) ≤ op.t3
  join_narrow =
      let ms = map (column_of D) (element_names l ++ element_names r) in
      let e = ap length (meet_of_cut f w k hs ms ho mo each each_column each_outside cut) in
      let few = space_narrow f w k (trees.Tree.Join op (shape l) (shape r)) hs ms valid each_column rows inner in
      omega (arith, e, few)

-- ---- all nodes

abbrev pub IsNarrow : Given → List (List ℕ) → Option Shape → Type 0
IsNarrow D outside None = Unit {0}
IsNarrow D outside (Some s) = All (λ b. b ≤ 6) (boundaries D outside s)

narrow_joined : (D : Given) (outside nl nr : List (List ℕ)) (sl sr : Option Shape) → names_if sl ≡ nl → names_if sr ≡ nr → IsNarrow D (outside ++ nr) sl →
    IsNarrow D (outside ++ nl) sr → length (meet D.f (length D.rows) (map (column_of D) (nl ++ nr)) (map (column_of D) outside)) ≤ 6 → IsNarrow D outside (joined sl sr)
unfolding boundaries
narrow_joined D outside nl nr None sr el er hl hr few = subst (λ o. IsNarrow D o sr) (ap (λ x. outside ++ x) (sym el) ∙ append-nil outside) hr
narrow_joined D outside nl nr (Some s) None el er hl hr few = subst (λ o. IsNarrow D o (Some s)) (ap (λ x. outside ++ x) (sym er) ∙ append-nil outside) hl
narrow_joined D outside nl nr (Some ls) (Some rs) el er hl hr few =
    let P = λ (b : ℕ). b ≤ 6 in
    let e = ap₂ (λ (x y : List (List ℕ)). length (meet D.f (length D.rows) (map (column_of D) (x ++ y)) (map (column_of D) outside))) el er in
    All-append P (boundaries D (outside ++ names rs) ls) _ (subst (λ x. All P (boundaries D (outside ++ x) ls)) (sym er) hl)
    (All-append P (boundaries D (outside ++ names ls) rs) _ (subst (λ x. All P (boundaries D (outside ++ x) rs)) (sym el) hr)
    (All-cons P (length (space D outside (shapes.Shape.Join ls rs))) [] (omega (arith, e, few)) (All-nil P)))

pub narrow : (D : Given) (w : ℕ) (N : Tree) (hs ho outside : List (List ℕ)) → IsInDual D w N hs ho outside → IsNarrow D outside (element_shape N)
unfolding element_shape element_names shape boundaries
narrow D w (Elem name vec weight) hs ho outside h =
    let few = basis_is_few D.f (length D.rows) (column_of D name ∷ []) h.each_column in
    All-cons (λ b. b ≤ 6) (length (space D outside (shapes.Shape.Leaf name weight))) [] (omega (arith, few)) (All-nil (λ b. b ≤ 6))
narrow D w (Void name t) hs ho outside h = tt
narrow D w (Join name op l r) hs ho outside h =
    let few = join_narrow D w op l r hs ho outside h.valid h.each h.each_column h.each_outside h.cut h.rows h.inner in
    let size_of = h.valid.0.sizes in
    let low : op.t3 ≤ 6 = size_of.2 in
    narrow_joined D outside (element_names l) (element_names r) (element_shape l) (element_shape r) (same_names l) (same_names r)
    (narrow D w l _ _ _ (left_in_dual D w op l r hs ho outside h.valid h.each h.each_column h.each_outside h.cut h.rows h.inner))
    (narrow D w r _ _ _ (right_in_dual D w op l r hs ho outside h.valid h.each h.each_column h.each_outside h.cut h.rows h.inner))
    (omega (arith, few, low))
