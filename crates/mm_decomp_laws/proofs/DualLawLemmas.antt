-- The tree that is built for the dual is dual to the given tree.
use Rattle.std.proofs.Common.{ℕ, ◌≡◌, true, Some, List, [], length, map, get_or, sym, ap, ◌∙◌, subst}
use Rattle.std.specs.List.{All}
use Rattle.mm_field.specs.declared.Field.{Field}
use Rattle.mm_field.specs.Vectors.{AreVectors, IsWithin, SameRowSpace}
use Rattle.mm_field.proofs.CombinationLemmas.{InSpan-within}
use Rattle.mm_matrix.proofs.DotLemmas.{orthogonal_within}
use Rattle.mm_present.specs.Comparing.{in_order, present_rows}
use Rattle.mm_tree.proofs.ElementLemmas.{different_elements}
use Rattle.mm_tree.specs.NamedTree.{Tree, element_names, is_one_of}
use Rattle.mm_decomp.specs.BuiltTree.{built}
use Rattle.mm_decomp.specs.Duals.{dual_of}
use Rattle.mm_decomp.specs.Shapes.{Shape, names}
use Rattle.mm_decomp.specs.Spaces.{Given}
use Rattle.mm_decomp.specs.TreeShapes.{element_shape}
use Rattle.mm_decomp.proofs.ClosedLemmas.{orthogonal_rows_reduced}
use Rattle.mm_decomp.proofs.DualLemmas.{IsOfTree, of_compared, orthogonal_in_dual, orthogonal_to_given, dual_boundaries, given_vectors, dual_vectors, tree_vectors}
use Rattle.mm_decomp.proofs.OrderLemmas.{all_there}
use Rattle.mm_decomp.proofs.TreeShapeLemmas.{names_if, same_names}
use Rattle.mm_decomp_laws.specs.DualLaws.{AreTheSame, TreesOfDualsAreDual, DualsAreNarrow}
use Rattle.mm_decomp_laws.specs.Ranks.{IsOver}
use Rattle.mm_decomp_laws.proofs.RowSpaceLemmas.{built_law}
use Rattle.mm_decomp_laws.proofs.SpaceLemmas.{vector_in}

pub of_same : (given : Given) (tree : Tree) → AreTheSame given tree → IsOfTree given tree
of_same given tree h = of_compared given tree h.valid.valid_shape h.different (different_elements tree h.valid.different) h.rows h.same

pub vectors_within : (f : Field) (n : ℕ) (rows sows : List (List ℕ)) → AreVectors f n sows → IsWithin f n rows sows → AreVectors f n rows
vectors_within f n rows sows h w = λ i d l. vector_in f n sows (get_or rows i d) h (w i d l)

-- the leaves of the shape are the elements
pub shape_names : (tree : Tree) (s : Shape) → element_shape tree ≡ Some s → names s ≡ element_names tree
shape_names tree s e = ap names_if (sym e) ∙ same_names tree

pub trees_are_dual : TreesOfDualsAreDual
trees_are_dual given tree s h e =
    let f = given.f in
    let E = element_names tree in
    let n = length E in
    let o = of_same given tree h in
    let alike = shape_names tree s e in
    let D = dual_of given in
    let made = built D 0 [] s in
    let over : IsOver D s = record {
      rows = (orthogonal_rows_reduced f (length given.names) given.rows).each;
      leaves = subst (λ ns. All (λ name. is_one_of name given.names ≡ true) ns) (sym alike) (all_there given.names E o.names);
    } in
    let b = built_law D s over in
    let elements : element_names made ≡ E = b.elements ∙ alike in
    let O = map (in_order given.names E) D.rows in
    let M = map (in_order given.names E) given.rows in
    let same : SameRowSpace f n O (present_rows f made) =
    subst (λ ns. SameRowSpace f (length ns) (map (in_order given.names ns) D.rows) (present_rows f made)) elements b.row_space in
    record {
      elements = elements;
      exactly = λ x hx. (
        (λ p.
            let q = InSpan-within f n (present_rows f made) O x (dual_vectors given tree o) same.1 p in
            orthogonal_within f n (present_rows f tree) M x (given_vectors given tree o) o.space.1 (orthogonal_to_given given tree o x q)),
        (λ p.
            let q = orthogonal_within f n M (present_rows f tree) x (tree_vectors given tree o) o.space.0 p in
            let r = orthogonal_in_dual given tree o x hx q in
            InSpan-within f n O (present_rows f made) x (vectors_within f n (present_rows f made) O (dual_vectors given tree o) same.1) same.0 r),
      );
    }

pub duals_are_narrow : DualsAreNarrow
duals_are_narrow given tree s h e = dual_boundaries given tree (of_same given tree h) s e
