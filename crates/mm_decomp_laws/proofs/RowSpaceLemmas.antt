-- The matrix of the tree that is built has the given row space.
use Rattle.std.proofs.Common.{ℕ, ◌+◌, ◌≡◌, List, [], ◌∷◌, ◌++◌, length, map, get_or, refl, sym, ap, ap₂, ◌∙◌, subst, arith, append-nil, length-append}
use Rattle.std.specs.List.{range_with_len}
use Rattle.std.proofs.lemmas.List.{length-map, map-append}
use Rattle.std.proofs.lemmas.List.Elements.{All-nil, All-cons, All-append}
use Rattle.mm_field.specs.declared.Field.{Field}
use Rattle.mm_field.specs.Vectors.{zeros, combination, times_matrix, IsVector, AreVectors, AreIndependent, IsWithin, SameRowSpace}
use Rattle.mm_field.proofs.CombinationLemmas.{first_row, combination-times_matrix, combination-zeros, IsVector-combination}
use Rattle.mm_linear.proofs.ReducedEchelonLemmas.{reduced_basis_is}
use Rattle.mm_logic.specs.PresentMatrix.{columns, internal}
use Rattle.mm_logic.specs.Tree as shapes
use Rattle.mm_matrix.proofs.FreeLemmas.{range_inside}
use Rattle.mm_present.specs.Comparing.{in_order, present_rows}
use Rattle.mm_decomp.proofs.OrthogonalLemmas.{inside_by_orthogonal}
use Rattle.mm_tree.specs.NamedTree.{Tree, shape, element_names}
use Rattle.mm_decomp.specs.BuiltTree.{built, first_digit}
use Rattle.mm_decomp.specs.Forms.{all_columns}
use Rattle.mm_decomp.specs.Shapes.{Shape, names, joins}
use Rattle.mm_decomp.specs.Shapes.Shape.{Leaf, Join}
use Rattle.mm_decomp.specs.Spaces.{Given, column_of, space}
use Rattle.mm_decomp.proofs.BuildLemmas.{first_digit_digits}
use Rattle.mm_decomp.proofs.FormLemmas.{zero_from_orthogonal, orthogonal_from_zero}
use Rattle.mm_decomp.proofs.LeadLemmas.{AreVectors-columns}
use Rattle.mm_decomp.proofs.GivenLemmas.{AreColumns, columns_of, named_columns, rows_in_order}
use Rattle.mm_decomp_laws.specs.Ranks.{IsOver}
use Rattle.mm_decomp_laws.specs.RowSpaces.{IsBuiltFor}
use Rattle.mm_decomp.proofs.LeafBasisLemmas.{leaf_basis}
use Rattle.mm_decomp_laws.proofs.SpaceLemmas.{both_columns, split_columns, space_independent, space_reduced, space_within_sum, children_meet}
use Rattle.mm_decomp_laws.proofs.StandsForLemmas.{StandsFor, stands_for_join}

-- ---- the tree stands for the columns of its leaves

pub stands_for : (given : Given) (k : ℕ) (outside : List (List ℕ)) (s : Shape) → AreColumns given (names s) → AreColumns given outside →
    StandsFor given.f (length given.rows) (shape (built given k outside s)) (space given outside s) (columns_of given (names s))
unfolding names built shape
stands_for given k outside (Leaf name weight) h ho =
    let f = given.f in
    let g = length given.rows in
    let m = column_of given name in
    let hm = first_row f g m [] h in
    let basis = space given outside (Leaf name weight) in
    let b = leaf_basis f g m hm in
    let none = append-nil basis in
    record {
      inner = [];
      count = b.count;
      inner_count = refl;
      each = (space_reduced given outside (Leaf name weight) h).each;
      each_inner = All-nil (λ v. IsVector f g v);
      given_each = h;
      independent = subst (λ vs. AreIndependent f g vs) (sym none) (space_independent given outside (Leaf name weight) h);
      within = subst (λ vs. IsWithin f g vs (m ∷ [])) (sym none) (reduced_basis_is f g (m ∷ []) h).span.1;
      column_vectors =
          All-cons (λ v. IsVector f (length (first_digit m) + 0) v) (first_digit m) []
          (record { len = omega arith; digits = first_digit_digits f m hm.digits }) (All-nil (λ v. IsVector f (length (first_digit m) + 0) v));
      columns = ap (λ vs. combination f g (first_digit m) vs ∷ []) none ∙ ap (λ v. v ∷ []) b.sum;
    }
stands_for given k outside (Join left right) h ho =
    let f = given.f in
    let g = length given.rows in
    let parts = split_columns given (names left) (names right) h in
    let hl = parts.0 in
    let hr = parts.1 in
    subst (λ vs. StandsFor f g (shape (built given k outside (Join left right))) (space given outside (Join left right)) vs)
    (sym (map-append (column_of given) (names left) (names right)))
    (stands_for_join f g (shape (built given k (outside ++ names right) left)) (shape (built given (k + joins left) (outside ++ names left) right))
    (space given outside (Join left right)) (space given (outside ++ names right) left) (space given (outside ++ names left) right)
    (columns_of given (names left)) (columns_of given (names right))
    (stands_for given k (outside ++ names right) left hl (both_columns given outside (names right) ho hr))
    (stands_for given (k + joins left) (outside ++ names left) right hr (both_columns given outside (names left) ho hl))
    (space_reduced given outside (Join left right) h).each
    (space_independent given outside (Join left right) h)
    (space_within_sum given outside left right hl hr ho)
    (children_meet given outside left right hl hr ho))

pub built_elements : (given : Given) (k : ℕ) (outside : List (List ℕ)) (s : Shape) → element_names (built given k outside s) ≡ names s
unfolding names built element_names
built_elements given k outside (Leaf name weight) = refl
built_elements given k outside (Join left right) =
    ap₂ (λ a b. a ++ b) (built_elements given k (outside ++ names right) left) (built_elements given (k + joins left) (outside ++ names left) right)

-- ---- columns with the same dependencies

rows_are : (f : Field) (a n : ℕ) (cs : List (List ℕ)) → length cs ≡ n → AreVectors f a cs → AreVectors f n (all_columns a cs)
rows_are f a n cs e h = subst (λ k. AreVectors f k (all_columns a cs)) e (AreVectors-columns f a cs (range_with_len 0 a) h (range_inside a))

-- rows of columns are within those of other columns where each dependency of these is one of those
within_by_dependencies : (f : Field) (a b n : ℕ) (cs ds : List (List ℕ)) → AreVectors f a cs → AreVectors f b ds → length cs ≡ n → length ds ≡ n →
    ((x : List ℕ) → IsVector f n x → combination f b x ds ≡ zeros b → combination f a x cs ≡ zeros a) → IsWithin f n (all_columns a cs) (all_columns b ds)
within_by_dependencies f a b n cs ds hc hd ec ed dep = λ i d l.
    inside_by_orthogonal f n (all_columns b ds) (rows_are f b n ds ed hd) (get_or (all_columns a cs) i d) (rows_are f a n cs ec hc i d l)
    (λ x hx o. orthogonal_from_zero f a cs x hc (hx.len ∙ sym ec) (dep x hx (zero_from_orthogonal f b ds x hd (hx.len ∙ sym ed) o)) i d l)

pub same_rows : (f : Field) (g n : ℕ) (T : shapes.Tree) (basis given : List (List ℕ)) → StandsFor f g T basis given → length given ≡ n →
    SameRowSpace f n (all_columns g given) (all_columns (shapes.boundary T + internal T) (columns f T))
same_rows f g n T basis given h e =
    let a = shapes.boundary T + internal T in
    let cs = columns f T in
    let frame = basis ++ h.inner in
    let count : length frame ≡ a = length-append basis h.inner ∙ ap₂ (λ x y. x + y) h.count h.inner_count in
    let hf = All-append (λ v. IsVector f g v) basis h.inner h.each h.each_inner in
    let ec : length cs ≡ n = sym (length-map cs (times_matrix f g frame)) ∙ ap length h.columns ∙ e in
    let sums : (x : List ℕ) → combination f g x given ≡ combination f g (combination f a x cs) frame =
    (λ x. ap (combination f g x) (sym h.columns) ∙ combination-times_matrix f g a x cs frame h.column_vectors hf) in (
      within_by_dependencies f g a n given cs h.given_each h.column_vectors e ec
          (λ x hx z. sums x ∙ ap (λ (v : List ℕ). combination f g v frame) z ∙ combination-zeros f g a frame hf),
      within_by_dependencies f a g n cs given h.column_vectors h.given_each ec e
          (λ x hx z.
          h.independent (combination f a x cs) (subst (λ k. IsVector f k (combination f a x cs)) (sym count) (IsVector-combination f a x cs h.column_vectors))
          (sym (sums x) ∙ z) ∙ ap zeros count),
    )

rows_of_tree : (f : Field) (tree : Tree) → present_rows f tree ≡ all_columns (shapes.boundary (shape tree) + internal (shape tree)) (columns f (shape tree))
unfolding present_rows
rows_of_tree f tree = refl

pub built_law : (given : Given) (s : Shape) → IsOver given s → IsBuiltFor given s (built given 0 [] s)
built_law given s over =
    let f = given.f in
    let g = length given.rows in
    let tree = built given 0 [] s in
    let ns = names s in
    let cs = columns_of given ns in
    let h = named_columns given ns over.rows over.leaves in
    let same = same_rows f g (length ns) (shape tree) (space given [] s) cs (stands_for given 0 [] s h (All-nil (λ v. IsVector f g v))) (length-map ns (column_of given)) in
    record {
      elements = built_elements given 0 [] s;
      row_space =
          subst (λ some. SameRowSpace f (length some) (map (in_order given.names some) given.rows) (present_rows f tree)) (sym (built_elements given 0 [] s))
          (subst (λ rows. SameRowSpace f (length ns) rows (present_rows f tree)) (sym (rows_in_order given ns over.leaves))
          (subst (λ rows. SameRowSpace f (length ns) (all_columns g cs) rows) (sym (rows_of_tree f tree)) same));
    }
