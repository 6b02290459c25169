-- The columns of the dual of a matrix that has the row space of a tree.
use Rattle.std.proofs.Common.{ℕ, ◌+◌, ◌<◌, ◌≤◌, ◌≡◌, ◌↔◌, Bool, true, false, cond, not, Option, Some, None, List, [], ◌∷◌, length, map, get_or, refl, sym, ap, ap₂, ◌∙◌, subst, arith}
use Rattle.std.specs.Prelude.{nat_lt}
use Rattle.std.specs.List.{All, IsDistinct, position, position_or_len, range_with_len}
use Rattle.std.specs.Str.{bytes_eq}
use Rattle.std.proofs.lemmas.Bool.{ltb-false, not-false}
use Rattle.std.proofs.lemmas.List.{length-map, get_or-map}
use Rattle.std.proofs.lemmas.List.Elements.{All-nil}
use Rattle.std.proofs.lemmas.List.Sums.{fails_before_first}
use Rattle.mm_field.specs.declared.Field.{Field}
use Rattle.mm_field.specs.Vectors.{zeros, combination, IsVector, AreVectors, InSpan, IsWithin, SameRowSpace}
use Rattle.mm_field.proofs.CombinationLemmas.{InSpan-within, IsWithin-itself}
use Rattle.mm_linear.specs.Coordinates.{unit}
use Rattle.mm_linear.specs.Decide.{is_in_span}
use Rattle.mm_linear.proofs.BasisLemmas.{IsVector-unit}
use Rattle.mm_linear.proofs.MeetTest.{is_in_span_decides}
use Rattle.mm_logic.specs.PresentMatrix.{columns, internal}
use Rattle.mm_logic.specs.Tree as trees
use Rattle.mm_logic.specs.Tree.{boundary, IsValid}
use Rattle.mm_logic_laws.proofs.MatrixLemmas.{columns_are, length-columns}
use Rattle.mm_matrix.specs.Columns.{column}
use Rattle.mm_matrix.specs.Orthogonal.{dot, IsOrthogonal}
use Rattle.mm_matrix.proofs.DotLemmas.{dot-comm, dot-unit, orthogonal_to_combination}
use Rattle.mm_matrix.proofs.FreeLemmas.{range_inside}
use Rattle.mm_present.specs.Comparing.{compared, compared_rows, first_missing, first_outside, in_order, present_rows, verdict_of, verdict_of_rows}
use Rattle.mm_present.specs.declared.comparison.Verdict.{Verdict}
use Rattle.mm_present.specs.declared.comparison.Verdict.TheVariants as verdict
use Rattle.mm_present.proofs.CompareLemmas.{as_many, none_missing}
use Rattle.mm_decomp.proofs.OrthogonalLemmas.{inside_by_orthogonal}
use Rattle.mm_tree.proofs.ElementLemmas.{count_elements}
use Rattle.mm_tree.specs.NamedTree.{Tree, shape, element_names, is_one_of}
use Rattle.mm_decomp.specs.Duals.{dual_of}
use Rattle.mm_decomp.specs.Forms.{all_columns, gathered, IsBasisOfDependencies, IsProduct}
use Rattle.mm_decomp.specs.Duals.{orthogonal_rows}
use Rattle.mm_decomp.specs.Shapes.{Shape}
use Rattle.mm_decomp.specs.Spaces.{Given, boundaries, column_of, first_wide}
use Rattle.mm_decomp.specs.TreeShapes.{element_shape}
use Rattle.mm_decomp.proofs.ChildRowLemmas.{map_vectors}
use Rattle.mm_decomp.proofs.ClosedLemmas.{orthogonal_rows_reduced, orthogonal_rows_span}
use Rattle.mm_decomp.proofs.FormLemmas.{combination_of_all_columns, cut_at_root, length-all_columns, orthogonal_from_zero, zero_from_orthogonal}
use Rattle.mm_decomp.proofs.GivenLemmas.{AreColumns, columns_of, named_columns, rows_in_order}
use Rattle.mm_decomp.proofs.LeadLemmas.{AreVectors-columns}
use Rattle.mm_decomp.proofs.NarrowLemmas.{IsInDual, IsNarrow, narrow}
use Rattle.mm_decomp.proofs.OrderLemmas.{AreSame, same_swapped, all_there, dot_in_order, order_back, IsVector-in_order, AreVectors-in_order, span_in_order}
use Rattle.mm_decomp.proofs.StepLemmas.{no_wide}

-- Named rows and a valid tree, over the same names, with the same row space.
pub record IsOfTree (given : Given) (tree : Tree) : Type 0 where
  pub valid : IsValid given.f (shape tree)
  pub names : AreSame given.names (element_names tree)
  pub rows : AreVectors given.f (length given.names) given.rows
  pub space : SameRowSpace given.f (length (element_names tree)) (map (in_order given.names (element_names tree)) given.rows) (present_rows given.f tree)

module _ (given : Given) (tree : Tree) (h : IsOfTree given tree) where
  abbrev f : Field
  f = given.f

  abbrev E : List (List ℕ)
  E = element_names tree

  abbrev n : ℕ
  n = length given.names

  abbrev e : ℕ
  e = length E

  abbrev T : trees.Tree
  T = shape tree

  abbrev w : ℕ
  w = boundary T + internal T

  abbrev Cs : List (List ℕ)
  Cs = columns f T

  abbrev D : Given
  D = dual_of given

  abbrev B : List (List ℕ)
  B = orthogonal_rows f n given.rows

  abbrev k : ℕ
  k = length B

  abbrev bs : List (List ℕ)
  bs = columns_of D E

  -- the given rows and those of the dual, in the order of the elements
  abbrev M : List (List ℕ)
  M = map (in_order given.names E) given.rows

  abbrev pub O : List (List ℕ)
  O = map (in_order given.names E) B

  hB : AreVectors f n B
  hB = (orthogonal_rows_reduced f n given.rows).each

  pub given_vectors : AreVectors f e M
  given_vectors = AreVectors-in_order given.names E h.names f given.rows h.rows

  pub dual_vectors : AreVectors f e O
  dual_vectors = AreVectors-in_order given.names E h.names f B hB

  hC : AreVectors f w Cs
  hC = columns_are f T h.valid

  named : All (λ name. is_one_of name given.names ≡ true) E
  named = all_there given.names E h.names

  hbs : AreVectors f k bs
  hbs = named_columns D E hB named

  dual_rows : O ≡ all_columns k bs
  dual_rows = rows_in_order D E named

  tree_rows : present_rows f tree ≡ all_columns w Cs
  unfolding present_rows
  tree_rows = refl

  count_columns : length Cs ≡ e
  count_columns = length-columns f T ∙ sym (count_elements tree)

  -- the rows of the dual are orthogonal to the given ones
  pub rows_orthogonal : (i : ℕ) (d : List ℕ) → i < length O → IsOrthogonal f M (get_or O i d)
  rows_orthogonal i d l =
      let li : i < k = (let q = length-map B (in_order given.names E) in omega arith) in
      let b = get_or B i [] in
      let hb = hB i [] li in
      let o = (orthogonal_rows_span f n given.rows b hb).0 (IsWithin-itself f n B hB i [] li) in
      λ j c lj.
      let lm : j < length given.rows = (let q = length-map given.rows (in_order given.names E) in omega arith) in
      ap₂ (dot f) (get_or-map (in_order given.names E) given.rows j [] c lm) (get_or-map (in_order given.names E) B i [] d li)
      ∙ dot_in_order given.names E h.names f (get_or given.rows j []) b (h.rows j [] lm).len hb.len
      ∙ o j [] lm

  -- and what is orthogonal to the given rows is a combination of those of the dual
  pub orthogonal_in_dual : (x : List ℕ) → IsVector f e x → IsOrthogonal f M x → InSpan f e O x
  orthogonal_in_dual x hx o =
      let s = h.names in
      let y = in_order E given.names x in
      let hy = IsVector-in_order E given.names (same_swapped given.names E s) f x hx in
      let back = order_back given.names E s x hx.len in
      let oy : IsOrthogonal f given.rows y =
      (λ j c lj.
      let lm : j < length M = (let q = length-map given.rows (in_order given.names E) in omega arith) in
      sym (dot_in_order given.names E s f (get_or given.rows j c) y (h.rows j c lj).len hy.len)
      ∙ ap₂ (dot f) (sym (get_or-map (in_order given.names E) given.rows j c [] lj)) back ∙ o j [] lm) in
      subst (λ v. InSpan f e O v) back (span_in_order given.names E s f B y hB ((orthogonal_rows_span f n given.rows y hy).1 oy))

  -- what is in the span of the given rows is orthogonal to those of the dual
  span_orthogonal : (x : List ℕ) → InSpan f e M x → IsOrthogonal f O x
  span_orthogonal x p = λ i d l.
      dot-comm f (get_or O i d) x ∙ ap (λ (v : List ℕ). dot f v (get_or O i d)) (sym p.sum)
      ∙ orthogonal_to_combination f e p.coefficients M (get_or O i d) given_vectors (rows_orthogonal i d l)

  -- and back
  orthogonal_span : (x : List ℕ) → IsVector f e x → IsOrthogonal f O x → InSpan f e M x
  orthogonal_span x hx o =
      inside_by_orthogonal f e M given_vectors x hx (λ y hy oy.
      let q = orthogonal_in_dual y hy oy in
      dot-comm f x y ∙ ap (λ (v : List ℕ). dot f v x) (sym q.sum) ∙ orthogonal_to_combination f e q.coefficients O x dual_vectors o)

  hrows : AreVectors f e (all_columns w Cs)
  hrows = subst (λ m. AreVectors f m (all_columns w Cs)) count_columns (AreVectors-columns f w Cs (range_with_len 0 w) hC (range_inside w))

  space : SameRowSpace f e M (all_columns w Cs)
  space = subst (λ rows. SameRowSpace f e M rows) tree_rows h.space

  -- products of the tree's columns are combinations of its rows
  products_are : (a : List ℕ) → length a ≡ w → combination f e a (all_columns w Cs) ≡ map (dot f a) Cs
  products_are a la = subst (λ m. combination f m a (all_columns w Cs) ≡ map (dot f a) Cs) count_columns (combination_of_all_columns f w Cs a hC la)

  row_count : length (all_columns w Cs) ≡ w
  row_count = length-all_columns w Cs

  products_vanish : (a : List ℕ) → IsVector f w a → combination f k (map (dot f a) Cs) bs ≡ zeros k
  products_vanish a ha =
      let x = map (dot f a) Cs in
      let p : InSpan f e (all_columns w Cs) x =
      record { coefficients = a; each = subst (λ m. IsVector f m a) (sym row_count) ha; sum = products_are a ha.len } in
      let o = span_orthogonal x (InSpan-within f e (all_columns w Cs) M x given_vectors space.1 p) in
      zero_from_orthogonal f k bs x hbs (length-map Cs (dot f a) ∙ count_columns ∙ sym (length-map E (column_of D)))
      (subst (λ rows. IsOrthogonal f rows x) dual_rows o)

  dependencies : IsBasisOfDependencies (record { f = f; cols = k; rows = bs }) (record { f = f; cols = w; rows = Cs })
  dependencies = record {
    each = hbs;
    each_vector = hC;
    field = refl;
    count = count_columns ∙ sym (length-map E (column_of D));
    balanced = products_vanish;
    solved = λ x hx z.
        let le = length-map E (column_of D) in
        let hxe : IsVector f e x = subst (λ m. IsVector f m x) le hx in
        let o : IsOrthogonal f O x = subst (λ rows. IsOrthogonal f rows x) (sym dual_rows) (orthogonal_from_zero f k bs x hbs hx.len z) in
        let p = InSpan-within f e M (all_columns w Cs) x hrows space.0 (orthogonal_span x hxe o) in
        let ha : IsVector f w p.coefficients = subst (λ m. IsVector f m p.coefficients) row_count p.each in
        record { a = p.coefficients; vector = ha; products = sym (products_are p.coefficients ha.len) ∙ p.sum };
  }

  unit_products : (j : ℕ) → j < w → map (dot f (unit w j)) Cs ≡ column Cs j
  unit_products j lj = map_vectors f w (dot f (unit w j)) (λ u. get_or u j 0) Cs hC (λ u hu. dot-comm f (unit w j) u ∙ dot-unit f w j u hu lj)

  at_root : IsInDual D w tree Cs [] []
  at_root = record {
    valid = h.valid;
    each = hC;
    each_column = hbs;
    each_outside = All-nil (λ v. IsVector f k v);
    cut = cut_at_root (record { f = f; cols = k; rows = bs }) (record { f = f; cols = w; rows = Cs }) dependencies;
    rows = λ j lj. record { a = unit w j; vector = IsVector-unit f w j lj; products = unit_products j lj };
    inner = λ i li.
        let lj : boundary T + i < w = omega arith in
        ap (λ (x : List ℕ). combination f k x bs) (sym (unit_products (boundary T + i) lj)) ∙ products_vanish (unit w (boundary T + i)) (IsVector-unit f w (boundary T + i) lj);
  }

  -- no boundary of the dual is above 6 where the shape is that of the tree
  pub dual_boundaries : (s : Shape) → element_shape tree ≡ Some s → All (λ b. b ≤ 6) (boundaries D [] s)
  dual_boundaries s es = subst (λ o. IsNarrow D [] o) es (narrow D w tree Cs [] [] at_root)

  pub dual_narrow : (s : Shape) → element_shape tree ≡ Some s → first_wide D s ≡ None
  dual_narrow s es = no_wide (boundaries D [] s) (dual_boundaries s es)

  -- what is in the span of the dual's rows is orthogonal to the given ones
  pub orthogonal_to_given : (x : List ℕ) → InSpan f e O x → IsOrthogonal f M x
  orthogonal_to_given x p = λ j c lj.
      let m = get_or M j c in
      dot-comm f m x ∙ ap (λ (v : List ℕ). dot f v m) (sym p.sum)
      ∙ orthogonal_to_combination f e p.coefficients O m dual_vectors (λ i d l. dot-comm f (get_or O i d) m ∙ rows_orthogonal i d l j c lj)

  pub tree_vectors : AreVectors f e (present_rows f tree)
  tree_vectors = subst (λ rows. AreVectors f e rows) (sym tree_rows) hrows

-- ---- rows that are compared as the same

verdict_parts : (o p : Option (List ℕ)) (rows : Verdict) → verdict_of o p rows ≡ verdict.Same → (o ≡ None) × (p ≡ None) × (rows ≡ verdict.Same)
verdict_parts (Some x) p rows e = cc
verdict_parts None (Some x) rows e = cc
verdict_parts None None rows e = (refl, refl, e)

row_verdict_parts : (i j : Option ℕ) → verdict_of_rows i j ≡ verdict.Same → (i ≡ None) × (j ≡ None)
row_verdict_parts (Some i) j e = cc
row_verdict_parts None (Some j) e = cc
row_verdict_parts None None e = (refl, refl)

fails_all : {X : Type 0} (p : X → Bool) (xs : List X) → position p xs ≡ None → (k : ℕ) (d : X) → k < length xs → p (get_or xs k d) ≡ false
fails_all p xs e k d l = go (nat_lt (position_or_len p xs) (length xs)) refl e
  where
    go : (b : Bool) → nat_lt (position_or_len p xs) (length xs) ≡ b → cond b (Some (position_or_len p xs)) None ≡ None → p (get_or xs k d) ≡ false
    go true q e = cc
    go false q e = let past : length xs ≤ position_or_len p xs = ltb-false _ _ q in fails_before_first p xs k d (omega arith)

all_inside : (f : Field) (n : ℕ) (rows others : List (List ℕ)) → AreVectors f n rows → AreVectors f n others → first_outside f n rows others ≡ None →
    IsWithin f n rows others
all_inside f n rows others hr ho e k d l =
    (is_in_span_decides f n others (get_or rows k d) ho (hr k d l)).0
    (not-false (is_in_span f n others (get_or rows k d)) (fails_all (λ row. not (is_in_span f n others row)) rows e k d l))

pub of_compared : (given : Given) (tree : Tree) → IsValid given.f (shape tree) → IsDistinct bytes_eq given.names → IsDistinct bytes_eq (element_names tree) →
    AreVectors given.f (length given.names) given.rows → compared given.f (record { names = given.names; rows = given.rows }) tree ≡ verdict.Same → IsOfTree given tree
unfolding compared present_rows
of_compared given tree ok dg de hg e =
    let f = given.f in
    let E = element_names tree in
    let M = map (in_order given.names E) given.rows in
    let p = verdict_parts (first_missing given.names E) (first_missing E given.names) (compared_rows f (length given.names) M (present_rows f tree)) e in
    let same : AreSame given.names E =
    record { different = dg; others_different = de; there = none_missing given.names E p.0; back = none_missing E given.names p.1 } in
    let count = as_many given.names E dg de p.0 p.1 in
    let w = boundary (shape tree) + internal (shape tree) in
    let Cs = columns f (shape tree) in
    let hC = columns_are f (shape tree) ok in
    let hT : AreVectors f (length E) (all_columns w Cs) =
    subst (λ m. AreVectors f m (all_columns w Cs)) (length-columns f (shape tree) ∙ sym (count_elements tree)) (AreVectors-columns f w Cs (range_with_len 0 w) hC (range_inside w)) in
    let given_vectors = AreVectors-in_order given.names E same f given.rows hg in
    let q = row_verdict_parts (first_outside f (length E) M (present_rows f tree)) (first_outside f (length E) (present_rows f tree) M)
    (sym (ap (λ m. compared_rows f m M (present_rows f tree)) count) ∙ p.2) in
    record {
      valid = ok;
      names = same;
      rows = hg;
      space = (all_inside f (length E) M (present_rows f tree) given_vectors hT q.0, all_inside f (length E) (present_rows f tree) M hT given_vectors q.1);
    }
