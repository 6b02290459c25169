-- What is collected at a node, by its shape.
use Rattle.std.proofs.Common.{ℕ, ◌+◌, ◌-◌, ◌≡◌, Ok, Err, Option, Some, None, List, ◌++◌, map, reverse, refl, sym, ap, ap₂, subst, ◌∙◌, arith, append-nil, Box, Global}
use Rattle.std.specs.Prelude.{OnOk}
use Rattle.std.specs.List.{range_with_len}
use Rattle.std.specs.declared.result.Result.{Result}
use Rattle.mm_field.specs.declared.Field.{Field}
use Rattle.mm_logic.specs.PresentMatrix.{internal}
use Rattle.mm_logic.specs.Tree as shapes
use Rattle.mm_matrix.specs.MatrixValue.{MatrixValue}
use Rattle.mm_ops.specs.OpValue.{OpValue}
use Rattle.mm_tree.specs.NamedTree.{Tree, shape, nodes as nodes_of}
use Rattle.mm_tree.specs.NamedTree.Tree.{Join}
use Rattle.mm_tree.specs.Nodes.{named, named_leaf, IsOver}
use Rattle.mm_tree.specs.declared.node.Item.{Item}
use Rattle.mm_tree.specs.declared.node.Leaf as leaves
use Rattle.mm_tree.specs.declared.node.Node as nodes
use Rattle.mm_tree.specs.declared.node.Node.TheViews as views
use Rattle.mm_tree.proofs.Walks.{named_of_leaf, named_join}
use Rattle.mm_present.specs.Joining.{ArePart, widened, placed_rows, joined_row, boundary_matrix}
use Rattle.mm_present.proofs.TreeRows.{boundary_of_join, collected_join, boundary_rows_are, length-boundary_rows, none_placed}

pub always_ok : {A E : Type 0} (P : Type 0) (r : Result A E) → P → OnOk r P
always_ok P (Ok a) p = p
always_ok P (Err e) p = tt

-- ---- leaves

pub shape_of_element : (l : leaves.Leaf) (item : Item) → l.item ≡ Some item → shape (named_leaf l) ≡ shapes.Tree.Elem item.vec
unfolding shape
shape_of_element l item e = ap (λ (i : Option Item). shape (named_leaf (record l { item = i }))) e

pub shape_of_void : (l : leaves.Leaf) → l.item ≡ None → shape (named_leaf l) ≡ shapes.Tree.Void l.t
unfolding shape
shape_of_void l e = ap (λ (i : Option Item). shape (named_leaf (record l { item = i }))) e

pub leaf_internal : (l : leaves.Leaf) → internal (shape (named_leaf l)) ≡ 0
unfolding shape
leaf_internal l = go l.item
  where
    go : (item : Option Item) → internal (shape (named_leaf (record l { item = item }))) ≡ 0
    go None = refl
    go (Some item) = refl

-- a leaf as a node
pub node_of_leaf : (node : nodes.Node) (l : leaves.Leaf) → node ≡ nodes.Leaf l → named node ≡ named_leaf l
node_of_leaf node l e = ap named e ∙ named_of_leaf l

-- ---- joins

pub record AtJoin (f : Field) (node : nodes.Node) (op : OpValue) (left right : nodes.Node) : Type 0 where
  pub field : op.f ≡ f
  pub over_left : IsOver f left
  pub over_right : IsOver f right
  pub shape_is : shape (named node) ≡ shapes.Tree.Join op.op (shape (named left)) (shape (named right))
  pub valid : shapes.IsValid f (shapes.Tree.Join op.op (shape (named left)) (shape (named right)))

over_join : (f : Field) (name : List ℕ) (op : OpValue) (l r : Box nodes.Node Global) → IsOver f (views.Join name op l r) →
    (op.f ≡ f) × IsOver f l.value × IsOver f r.value
unfolding IsOver
over_join f name op l r h = h

shape_join : (name : List ℕ) (op : OpValue) (l r : Tree) → shape (Join name op.op l r) ≡ shapes.Tree.Join op.op (shape l) (shape r)
unfolding shape
shape_join name op l r = refl

pub at_join : (f : Field) (node : nodes.Node) (name : List ℕ) (op : OpValue) (l r : Box nodes.Node Global) → node ≡ views.Join name op l r →
    IsOver f node → shapes.IsValid f (shape (named node)) → AtJoin f node op l.value r.value
at_join f node name op l r e over ok =
    let o = over_join f name op l r (subst (λ (x : nodes.Node). IsOver f x) e over) in
    let s = ap shape (ap named e ∙ named_join name op l r) ∙ shape_join name op (named l.value) (named r.value) in
    record {
      field = o.0;
      over_left = o.1;
      over_right = o.2;
      shape_is = s;
      valid = subst (λ (T : shapes.Tree). shapes.IsValid f T) s ok;
    }

-- the boundary rows of a child of a join
pub part_is : (f : Field) (op : OpValue) (T : shapes.Tree) (t : ℕ) (m : MatrixValue) → op.f ≡ f → m ≡ boundary_matrix f T → shapes.IsValid f T → shapes.boundary T ≡ t →
    ArePart op.f t m
part_is f op T t m ef em ok et =
    subst (λ g. ArePart g t m) (sym ef) (subst (λ (x : MatrixValue). ArePart f t x) (sym em) (record {
      field = refl;
      count = length-boundary_rows f T ∙ et;
      each = boundary_rows_are f T ok;
    }))

pub op_over : (f : Field) (op : OpValue) → op.f ≡ f → op ≡ record { f = f; op = op.op }
op_over f op e = ap (λ g. record { f = g; op = op.op }) e

pub join_part : (f : Field) (op : OpValue) (S L R : shapes.Tree) (first second m : MatrixValue) → op.f ≡ f → S ≡ shapes.Tree.Join op.op L R →
    shapes.IsValid f (shapes.Tree.Join op.op L R) → first ≡ boundary_matrix f L → second ≡ boundary_matrix f R →
    m ≡ record { f = op.f; cols = first.cols + second.cols; rows = map (joined_row op first second) (range_with_len 0 op.op.t3) } → m ≡ boundary_matrix f S
join_part f op S L R first second m ef es ok e1 e2 em =
    em
    ∙ ap₂ (λ (a b : MatrixValue). record { f = op.f; cols = a.cols + b.cols; rows = map (joined_row op a b) (range_with_len 0 op.op.t3) }) e1 e2
    ∙ ap (λ (o : OpValue). record { f = o.f; cols = shapes.size L + shapes.size R; rows = map (joined_row o (boundary_matrix f L) (boundary_matrix f R)) (range_with_len 0 op.op.t3) }) (op_over f op ef)
    ∙ ap (λ rows. record { f = f; cols = shapes.size L + shapes.size R; rows = rows }) (sym (boundary_of_join f op.op L R ok))
    ∙ ap (boundary_matrix f) (sym es)

pub join_collected : (f : Field) (op : OpValue) (S L R : shapes.Tree) (first second : MatrixValue) (at before after total : ℕ) (old mid last new : List (List ℕ)) →
    op.f ≡ f → S ≡ shapes.Tree.Join op.op L R → shapes.IsValid f (shapes.Tree.Join op.op L R) → first ≡ boundary_matrix f L → second ≡ boundary_matrix f R →
    at ≡ total - (after + shapes.size R) - shapes.size L → before + (shapes.size S + after) ≡ total →
    ((b : ℕ) → b + (shapes.size R + after) ≡ total → mid ≡ old ++ reverse (placed_rows f b after R)) →
    ((b : ℕ) → b + (shapes.size L + (after + shapes.size R)) ≡ total → last ≡ mid ++ reverse (placed_rows f b (after + shapes.size R) L)) →
    new ≡ last ++ reverse (map (widened at after) (map (joined_row op first second) (range_with_len op.op.t3 op.op.c))) →
    new ≡ old ++ reverse (placed_rows f before after S)
join_collected f op S L R first second at before after total old mid last new ef es ok e1 e2 ea total_is hm hl en =
    let n : shapes.size S ≡ shapes.size L + shapes.size R = ap shapes.size es in
    let same : at ≡ before = omega arith in
    let reversed : after + shapes.size R ≡ shapes.size R + after = omega arith in
    collected_join f op.op L R before after old mid last new ok
    (hm (before + shapes.size L) (omega arith))
    (hl before (omega arith) ∙ ap (λ a. mid ++ reverse (placed_rows f before a L)) reversed)
    (en
    ∙ ap (λ b. last ++ reverse (map (widened b after) (map (joined_row op first second) (range_with_len op.op.t3 op.op.c)))) same
    ∙ ap₂ (λ (a b : MatrixValue). last ++ reverse (map (widened before after) (map (joined_row op a b) (range_with_len op.op.t3 op.op.c)))) e1 e2
    ∙ ap (λ (o : OpValue). last ++ reverse (map (widened before after) (map (joined_row o (boundary_matrix f L) (boundary_matrix f R)) (range_with_len op.op.t3 op.op.c)))) (op_over f op ef))
    ∙ ap (λ (T : shapes.Tree). old ++ reverse (placed_rows f before after T)) (sym es)

-- nothing is put at a leaf
pub leaf_collected : (f : Field) (S : shapes.Tree) (before after : ℕ) (old : List (List ℕ)) → internal S ≡ 0 → old ≡ old ++ reverse (placed_rows f before after S)
leaf_collected f S before after old e = sym (ap (λ rows. old ++ reverse rows) (none_placed f S before after e) ∙ append-nil old)

nodes_join : (name : List ℕ) (op : OpValue) (l r : Tree) → nodes_of (Join name op.op l r) ≡ nodes_of l + nodes_of r + 1
unfolding nodes_of
nodes_join name op l r = refl

-- a join has more nodes than either child
pub nodes_at_join : (node : nodes.Node) (name : List ℕ) (op : OpValue) (l r : Box nodes.Node Global) → node ≡ views.Join name op l r →
    nodes_of (named node) ≡ nodes_of (named l.value) + nodes_of (named r.value) + 1
nodes_at_join node name op l r e = ap nodes_of (ap named e ∙ named_join name op l r) ∙ nodes_join name op (named l.value) (named r.value)
