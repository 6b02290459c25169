use Rattle.std.proofs.Common.{◌≡◌, ◌&&◌, true, false, length, take, drop, sym, ap, ap₂, subst, ◌∙◌, arith}
use Rattle.std.proofs.lemmas.List.FromFn.{length-map-range_with_len}
use Rattle.mm_field.specs.Vectors.{AreVectors}
use Rattle.mm_linear.specs.ReducedEchelon.{reduced_basis}
use Rattle.mm_logic.specs.PresentMatrix.{boundary_rows}
use Rattle.mm_logic.specs.Tree as shapes
use Rattle.mm_matrix.specs.Columns.{column}
use Rattle.mm_matrix.specs.MatrixValue.{MatrixValue}
use Rattle.mm_present.specs.Comparing.{first_outside, present_rows}
use Rattle.mm_present.specs.Images.{are_zero, images}
use Rattle.mm_present.specs.Joining.{internal_rows}
use Rattle.mm_present.proofs.ImageWalkLemmas.{all_images_zero}
use Rattle.mm_tree.specs.NamedTree.{shape}
use Rattle.mm_tree.specs.Nodes.{named}
use Rattle.mm_present.proofs.images.are_present_inside.Goals as goal
use Rattle.mm_present.proofs.images.are_present_inside.Goals.{then-zero, else-zero}

pub images_of-requires-clause-room : goal.images_of-requires-clause-room
images_of-requires-clause-room c =
    let kernel = c.in_ok-kernel.kernel in
    let tree = ap (λ t. shapes.size (shape t)) c.node.ensures.tree in
    let n : length c.in_ok-columns.columns.rows ≡ kernel.cols =
    ap (λ (m : MatrixValue). length m.rows) c.in_ok-columns.ensures ∙ length-map-range_with_len (column kernel.rows) 0 kernel.cols in
    let k : kernel.cols ≡ c.args.given.now.cols = c.in_ok-kernel.ensures.cols ∙ ap (λ (m : MatrixValue). m.cols) c.in_ok-space.ensures.rows in
    let e = c.requires.columns in
    omega arith

pub returns : goal.returns
returns c = elim c.if-zero.branch [
  | then-zero w ↦ (λ e.
      let given = c.args.given.now in
      let f = c.args.tree.now.f in
      let tree = c.args.tree.now.tree in
      let T = shape tree in
      let columns = c.in_ok-columns.columns in
      let rows = c.in_ok-images.images in
      let zero = c.images_of.new.zero in
      let ef : given.f ≡ f = c.requires.field in
      let en : given.cols ≡ shapes.size T = c.requires.columns in
      let hg : AreVectors f (shapes.size T) given.rows =
      subst (λ n. AreVectors f n given.rows) en (subst (λ h. AreVectors h given.cols given.rows) ef c.rows.ensures.each) in
      let space : c.in_ok-space.space ≡ record { f = f; cols = shapes.size T; rows = reduced_basis f (shapes.size T) given.rows } =
      c.in_ok-space.ensures.rows ∙ ap₂ (λ h n. record { f = h; cols = n; rows = reduced_basis h n given.rows }) ef en in
      let found = subst (λ t. (rows ≡ record { f = f; cols = columns.cols; rows = images f columns.cols (take (shapes.size (shape t)) (drop 0 columns.rows)) (boundary_rows f (shape t)) })
      × (zero ≡ (true && are_zero (images f columns.cols (take (shapes.size (shape t)) (drop 0 columns.rows)) (internal_rows f (shape t))))))
      c.node.ensures.tree (subst (λ h. (rows ≡ record {
        f = h;
        cols = columns.cols;
        rows = images h columns.cols (take (shapes.size (shape (named c.node.result.now))) (drop 0 columns.rows)) (boundary_rows h (shape (named c.node.result.now)));
      }) × (zero ≡ (true && are_zero (images h columns.cols (take (shapes.size (shape (named c.node.result.now))) (drop 0 columns.rows))
      (internal_rows h (shape (named c.node.result.now)))))))
      c.field.ensures c.in_ok-images.ensures.1) in
      all_images_zero f tree given.rows c.in_ok-space.space c.in_ok-kernel.kernel columns rows zero c.node.ensures.valid.valid_shape hg space c.in_ok-kernel.ensures
      c.rows-2.ensures.each c.in_ok-columns.ensures found.0 found.1 w.if-zero.true (sym w.are_zero_from.ensures ∙ sym w.result-is ∙ e)
      ∙ ap₂ (λ h n. first_outside h n (present_rows f tree) given.rows) (sym ef) (sym en))
  | else-zero w ↦ (λ e. let bad : false ≡ true = sym w.if-zero.false ∙ sym w.result-is ∙ e in cc)
]
