-- A join and its children as nodes: what a walk below a join needs.
use Rattle.std.proofs.Common.{◌≡◌, ◌<◌, ◌≤◌, ◌+◌, ℕ, List, [], ◌∷◌, Option, Some, None, refl, sym, ap, ◌∙◌, subst, arith}
use Rattle.std.proofs.Common.{Box, Global}
use Rattle.mm_field.specs.declared.Field.{Field}
use Rattle.mm_logic.specs.Formula.{Formula}
use Rattle.mm_logic.specs.Value.{Value}
use Rattle.mm_logic.specs.Occurrence.{nodes as parts, list_cells}
use Rattle.mm_ops.specs.OpValue.{OpValue}
use Rattle.mm_states.specs.Letters as letters
use Rattle.mm_tree.specs.NamedTree.{Tree, nodes, shape, boundary}
use Rattle.mm_tree.specs.NamedTree.Tree.{Join}
use Rattle.mm_tree.specs.Nodes.{named, named_leaf, field_of, IsOver}
use Rattle.mm_tree.specs.Paths.{Path, node_at}
use Rattle.mm_tree.specs.ValidTree.{IsValidTree}
use Rattle.mm_tree.specs.declared.node.Item.{Item}
use Rattle.mm_tree.specs.declared.node.Leaf.{Leaf}
use Rattle.mm_tree.specs.declared.node.Node.{Node}
use Rattle.mm_tree.specs.declared.node.Node.TheViews as views
use Rattle.mm_tree.specs.declared.node.Node as nodes_of
use Rattle.mm_tree.proofs.Walks.{named_join, named_of_leaf, leaf_nodes}
use Rattle.mm_tree.proofs.PathLemmas.{nodes_join}
use Rattle.mm_tree.proofs.TreeLemmas.{valid_left, valid_right, over_field, few_nodes, shape_boundary}
use Rattle.mm_nodes.specs.Demands.{IsExact}
use Rattle.mm_nodes.specs.Calls.{CanWalk, CanMakeLeaf}

-- a join over f
pub record OverJoin (f : Field) (op : OpValue) (l r : Node) : Type 0 where
  pub own : op.f ≡ f
  pub left : IsOver f l
  pub right : IsOver f r

over_join : (f : Field) (n : List ℕ) (op : OpValue) (l r : Box Node Global) → IsOver f (views.Join n op l r) → OverJoin f op l.value r.value
unfolding IsOver
over_join f n op l r o = record { own = o.0; left = o.1; right = o.2 }

-- what is known of a join that a walk meets
pub record Meets (node : Node) (n : List ℕ) (op : OpValue) (l r : Node) : Type 0 where
  pub field : field_of node ≡ op.f
  pub tree : named node ≡ Join n op.op (named l) (named r)
  pub valid : IsValidTree op.f (Join n op.op (named l) (named r))
  pub left : IsOver op.f l
  pub right : IsOver op.f r

pub meets : (node : Node) (n : List ℕ) (op : OpValue) (l r : Box Node Global) → node ≡ views.Join n op l r → IsOver (field_of node) node → IsValidTree (field_of node) (named node)
    → Meets node n op l.value r.value
meets node n op l r e o v =
    let over = over_join (field_of node) n op l r (subst (IsOver (field_of node)) e o) in
    let tree = ap named e ∙ named_join n op l r in
    record {
      field = sym over.own;
      tree = tree;
      valid = subst (λ (f : Field). IsValidTree f (Join n op.op (named l.value) (named r.value))) (sym over.own) (subst (IsValidTree (field_of node)) tree v);
      left = subst (λ (f : Field). IsOver f l.value) (sym over.own) over.left;
      right = subst (λ (f : Field). IsOver f r.value) (sym over.own) over.right;
    }

-- what holds of a join holds of its node
pub as_node : (P : Field → Tree → Type 0) (node : Node) (n : List ℕ) (op : OpValue) (l r : Node) → Meets node n op l r → P op.f (Join n op.op (named l) (named r)) → P (field_of node) (named node)
as_node P node n op l r m p = subst (λ (f : Field). P f (named node)) (sym m.field) (subst (P op.f) (sym m.tree) p)

-- what holds of a child, named by its node, holds over the join's field
pub as_child : (P : Field → Tree → Type 0) (d e : Node) (f : Field) → d ≡ e → IsOver f e → P (field_of d) (named d) → P f (named e)
as_child P d e f i o p = subst (λ (g : Field). P g (named e)) (over_field f e o) (subst (λ (x : Node). P (field_of x) (named x)) i p)

module _ (F F1 : Formula) (g g1 : Field) (lists nows : List (List Value)) (limit : ℕ) (node d : Node) (n : List ℕ) (op : OpValue) (l r : Node) (m : Meets node n op l r) (c : CanWalk F g lists limit node)
    (e : F1 ≡ F) (e1 : g1 ≡ g) (exact : IsExact F nows) (cells : list_cells (parts F) nows ≤ limit) where
  child_walks : (child : Node) → d ≡ child → IsOver op.f child → IsValidTree op.f (named child) → CanWalk F1 g1 nows limit d
  child_walks child i over valid =
      subst (λ (G : Formula). CanWalk G g1 nows limit d) (sym e) (subst (λ (h : Field). CanWalk F h nows limit d) (sym e1)
      (subst (λ (x : Node). CanWalk F g nows limit x) (sym i) (record {
        over = subst (λ (f : Field). IsOver f child) (sym (over_field op.f child over)) over;
        valid = subst (λ (f : Field). IsValidTree f (named child)) (sym (over_field op.f child over)) valid;
        field = subst (letters.IsOver F g) (m.field ∙ sym (over_field op.f child over)) c.field;
        exact = exact;
        cells = cells;
        limited = c.limited;
      })))

  pub left_walks : d ≡ l → CanWalk F1 g1 nows limit d
  left_walks i = child_walks l i m.left (valid_left op.f n op.op (named l) (named r) m.valid)

  pub right_walks : d ≡ r → CanWalk F1 g1 nows limit d
  right_walks i = child_walks r i m.right (valid_right op.f n op.op (named l) (named r) m.valid)

  pub join_over : letters.IsOver F1 g1 op.f
  join_over = subst (λ (G : Formula). letters.IsOver G g1 op.f) (sym e) (subst (λ (h : Field). letters.IsOver F h op.f) (sym e1) (subst (letters.IsOver F g) m.field c.field))

module _ (node : Node) (n : List ℕ) (op : OpValue) (l r : Node) (m : Meets node n op l r) where
  pub all_nodes : nodes (named node) ≡ nodes (named l) + nodes (named r) + 1
  all_nodes = ap nodes m.tree ∙ nodes_join n op.op (named l) (named r)

  pub few_below : nodes (named l) + nodes (named r) < 16383
  few_below =
      let few = few_nodes op.f (Join n op.op (named l) (named r)) m.valid in
      let join = nodes_join n op.op (named l) (named r) in
      omega (arith, few, join)

  pub left_less : (d : Node) → d ≡ l → nodes (named d) < nodes (named node)
  left_less d e = let here = ap (λ (x : Node). nodes (named x)) e in let all = all_nodes in omega (arith, here, all)

  pub right_less : (d : Node) → d ≡ r → nodes (named d) < nodes (named node)
  right_less d e = let here = ap (λ (x : Node). nodes (named x)) e in let all = all_nodes in omega (arith, here, all)

  pub left_boundary : boundary (named l) ≡ op.op.t1
  unfolding shape
  left_boundary = sym (shape_boundary (named l)) ∙ m.valid.valid_shape.1

  pub right_boundary : boundary (named r) ≡ op.op.t2
  unfolding shape
  right_boundary = sym (shape_boundary (named r)) ∙ m.valid.valid_shape.2

-- ---- a leaf

-- what is known of a leaf that a walk meets
pub record MeetsLeaf (node : Node) (leaf : Leaf) : Type 0 where
  pub field : field_of node ≡ leaf.field
  pub tree : named node ≡ named_leaf leaf

pub meets_leaf : (node : Node) (leaf : Leaf) → node ≡ nodes_of.Leaf leaf → MeetsLeaf node leaf
unfolding field_of
meets_leaf node leaf e = record { field = ap field_of e; tree = ap named e ∙ named_of_leaf leaf }

pub as_leaf : (P : Field → Tree → Type 0) (node : Node) (leaf : Leaf) → MeetsLeaf node leaf → P leaf.field (named_leaf leaf) → P (field_of node) (named node)
as_leaf P node leaf m p = subst (λ (f : Field). P f (named node)) (sym m.field) (subst (P leaf.field) (sym m.tree) p)

pub can_make : (F : Formula) (g : Field) (lists : List (List Value)) (limit : ℕ) (node : Node) (leaf : Leaf) → node ≡ nodes_of.Leaf leaf → CanWalk F g lists limit node → CanMakeLeaf F g lists leaf 0
can_make F g lists limit node leaf e c =
    let m = meets_leaf node leaf e in
    let cells = c.cells in
    let limited = c.limited in
    record {
      field = subst (letters.IsOver F g) m.field c.field;
      over = subst (λ (f : Field). IsOver f (nodes_of.Leaf leaf)) m.field (subst (IsOver (field_of node)) e c.over);
      valid = subst (λ (f : Field). IsValidTree f (named_leaf leaf)) m.field (subst (IsValidTree (field_of node)) m.tree c.valid);
      roomy = omega arith;
    }

pub one_node : (node : Node) (leaf : Leaf) → node ≡ nodes_of.Leaf leaf → nodes (named node) ≡ 1
one_node node leaf e = ap nodes (meets_leaf node leaf e).tree ∙ leaf_nodes leaf

pub child_over : (d e : Node) (f : Field) → d ≡ e → IsOver f e → IsOver (field_of d) d
child_over d e f i o = subst (λ (x : Node). IsOver (field_of x) x) (sym i) (subst (λ (g : Field). IsOver g e) (sym (over_field f e o)) o)

pub child_valid : (d e : Node) (f : Field) → d ≡ e → IsOver f e → IsValidTree f (named e) → IsValidTree (field_of d) (named d)
child_valid d e f i o v = subst (λ (x : Node). IsValidTree (field_of x) (named x)) (sym i) (subst (λ (g : Field). IsValidTree g (named e)) (sym (over_field f e o)) v)

pub leaf_node : (node : Node) (leaf : Leaf) (path : Path) → MeetsLeaf node leaf → named node ≡ node_at (named node) path
unfolding node_at
leaf_node node leaf path m = subst (λ (T : Tree). T ≡ node_at T path) (sym m.tree) (by_item leaf.item path)
  where
    by_item : (item : Option Item) (path : Path) → named_leaf (record leaf { item = item }) ≡ node_at (named_leaf (record leaf { item = item })) path
    by_item None [] = refl
    by_item None (step ∷ path) = refl
    by_item (Some i) [] = refl
    by_item (Some i) (step ∷ path) = refl
