use Rattle.std.proofs.Common.{◌≡◌, ◌<◌, ◌+◌, ◌^◌, ◌++◌, [], ◌∷◌, length, take, drop, ap, subst, ◌∙◌, arith}
use Rattle.mm_field.specs.Vectors.{AreDigits, IsVector}
use Rattle.mm_logic.specs.Tree as shapes
use Rattle.mm_matrix.specs.MatrixValue.{MatrixValue}
use Rattle.mm_present.specs.Dependencies.{ArePairs, Finds, least_place, tails, with_boundary}
use Rattle.mm_present.proofs.NodeLemmas.{always_ok, shape_of_element, shape_of_void}
use Rattle.mm_present.proofs.WalkLemmas.{ok_both, element_walk, void_walk}
use Rattle.mm_tree.specs.NamedTree.{shape}
use Rattle.mm_tree.specs.Nodes.{named_leaf}
use Rattle.mm_present.proofs.dependencies.leaf_pairs.Goals as goal

pub row-column-requires : goal.row-column-requires
row-column-requires c =
    let s = ap shapes.size (shape_of_element c.args.leaf.now c.in-Some.item c.in-Some.is) in
    let r = c.requires.room in
    omega arith

pub overflow_add-next : goal.overflow_add-next
overflow_add-next c =
    let s = ap shapes.size (shape_of_element c.args.leaf.now c.in-Some.item c.in-Some.is) in
    let r = c.requires.room in
    let n = c.rows.ensures.count in
    let small : c.rows.result < 2 ^ 64 = c.rows.type_inv in
    omega arith

pub element_pairs-requires-clause-digits : goal.element_pairs-requires-clause-digits
element_pairs-requires-clause-digits c =
    (subst (λ (T : shapes.Tree). shapes.IsValid c.args.f T) (shape_of_element c.args.leaf.now c.in-Some.item c.in-Some.is) c.requires.valid).0

pub returns-in-Some : goal.returns-in-Some
returns-in-Some c =
    let f = c.args.f in
    let T = shape (named_leaf c.args.leaf.now) in
    let vec = c.in-Some.item.vec in
    let eT = shape_of_element c.args.leaf.now c.in-Some.item c.in-Some.is in
    let s = ap shapes.size eT in
    let columns = c.args.columns.now in
    let next = c.args.next.now in
    let column = c.row-column.result.now in
    let before = c.args.least.now in
    let after = c.element_pairs.new.least in
    let l : next < length columns.rows = (let r = c.requires.room in omega arith) in
    let digits : AreDigits f vec = (subst (λ (S : shapes.Tree). shapes.IsValid f S) eT c.requires.valid).0 in (
      always_ok (next + 1 ≡ next + shapes.size T) c.element_pairs.result (omega arith),
      ok_both {P = λ (m : MatrixValue). m ≡ record { f = f; cols = length vec + length column; rows = with_boundary (length vec) ((vec ++ column) ∷ []) }}
          {R = λ (m : MatrixValue). ArePairs f (shapes.boundary T) columns.cols m × Finds f columns.cols T (take (shapes.size T) (drop next columns.rows)) m.rows before after}
          {Q = after ≡ least_place before (tails (length vec) ((vec ++ column) ∷ []))}
          c.element_pairs.result c.element_pairs.ensures.pairs c.element_pairs.ensures.least
          (λ m em el. element_walk f T vec column columns m next before after eT digits c.row-column.ensures.value
          (subst (λ h. IsVector h columns.cols column) c.requires.field c.row-column.ensures.vector) l em el),
    )

pub returns-in_ok-cols-in-None : goal.returns-in_ok-cols-in-None
returns-in_ok-cols-in-None c =
    let f = c.args.f in
    let T = shape (named_leaf c.args.leaf.now) in
    let eT = shape_of_void c.args.leaf.now c.in-None.is in
    let s = ap shapes.size eT in
    let columns = c.args.columns.now in (
      omega arith,
      void_walk f T c.args.leaf.now.t columns c.new.result c.args.next.now c.args.least.now eT
          (c.new.ensures ∙ ap (λ n. record { f = f; cols = n; rows = [] }) (c.in_ok-cols-in-None.ensures ∙ ap (λ n. c.args.leaf.now.t + n) c.cols.ensures)),
    )
