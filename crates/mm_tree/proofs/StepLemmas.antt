-- Steps of the walks that look for a number and that change a tree.
use Rattle.std.proofs.Common.{ℕ, ℤ, suc, ◌≡◌, ◌<◌, ◌≤◌, ◌+◌, ◌-◌, ◌||◌, ◌&&◌, nat_lt, Bool, true, false, List, [], ◌∷◌, refl, sym, ap, ap₂, ◌∙◌, subst, Option, Some, None, if◌then◌else◌, arith, Bor, Box, Global}
use Rattle.std.specs.Option.{is_some}
use Rattle.std.specs.Str.{bytes_eq}
use Rattle.std.specs.Box.{with_value}
use Rattle.std.proofs.lemmas.Bool.{lt-ltb, le-ltb}
use Rattle.mm_field.specs.declared.Field.{Field}
use Rattle.mm_logic.specs.Operator.{Op}
use Rattle.mm_ops.specs.OpValue.{OpValue}
use Rattle.mm_tree.specs.NamedTree.{Tree, boundary, nodes, element_names, is_one_of}
use Rattle.mm_tree.specs.NamedTree.Tree.{Elem, Void, Join}
use Rattle.mm_tree.specs.Nodes.{named, named_leaf, field_of, IsOver, reweighted, item_with}
use Rattle.mm_tree.specs.Places.{path_of}
use Rattle.mm_tree.specs.Steps.{IsSought, IsExchanged, IsSpliced, IsReweighted}
use Rattle.mm_tree.specs.Paths.{Path, node_at, with_node, with_first_weight}
use Rattle.mm_tree.specs.Weights.{weight_named, first_weight}
use Rattle.mm_tree.specs.declared.node.Item.{Item}
use Rattle.mm_tree.specs.declared.node.Leaf as leaves
use Rattle.mm_tree.specs.declared.node.Node.{Node}
use Rattle.mm_tree.specs.declared.node.Node as nodes_of
use Rattle.mm_tree.specs.declared.node.Node.TheViews as views
use Rattle.mm_tree.specs.declared.splice.Sought.{Sought}
use Rattle.mm_tree.specs.declared.splice.Sought.TheVariants.{Here, Beyond}
use Rattle.mm_tree.specs.declared.splice.Spliced.{Spliced}
use Rattle.mm_tree.specs.declared.splice.Spliced.TheVariants as spliced
use Rattle.mm_tree.proofs.Walks.{named_join, join_has_element, leaf_is_element}
use Rattle.mm_tree.proofs.PathLemmas.{nodes_join, some_nodes}

-- ---- the way of a number

pub path_root : (tree : Tree) → path_of 0 tree ≡ []
unfolding path_of
path_root tree = refl

path_more : (k : ℕ) (n : List ℕ) (op : Op) (left right : Tree) →
    path_of (suc k) (Join n op left right) ≡ (if nat_lt k (nodes left) then true ∷ path_of k left else false ∷ path_of (k - nodes left) right)
unfolding path_of
path_more k n op left right = refl

pub path_of_left : (at : ℕ) (n : List ℕ) (op : Op) (left right : Tree) → 0 < at → at - 1 < nodes left →
    path_of at (Join n op left right) ≡ true ∷ path_of (at - 1) left
path_of_left at n op left right p l =
    let e : at ≡ suc (at - 1) = omega arith in
    ap (λ (k : ℕ). path_of k (Join n op left right)) e ∙ path_more (at - 1) n op left right
    ∙ ap (λ (b : Bool). if b then true ∷ path_of (at - 1) left else false ∷ path_of (at - 1 - nodes left) right) (lt-ltb (at - 1) (nodes left) l)

pub path_of_right : (at rest : ℕ) (n : List ℕ) (op : Op) (left right : Tree) → 0 < at → at - 1 ≡ nodes left + rest →
    path_of at (Join n op left right) ≡ false ∷ path_of rest right
path_of_right at rest n op left right p l =
    let e : at ≡ suc (at - 1) = omega arith in
    let r : at - 1 - nodes left ≡ rest = omega arith in
    let m : nodes left ≤ at - 1 = omega arith in
    ap (λ (k : ℕ). path_of k (Join n op left right)) e ∙ path_more (at - 1) n op left right
    ∙ ap (λ (b : Bool). if b then true ∷ path_of (at - 1) left else false ∷ path_of (at - 1 - nodes left) right) (le-ltb (at - 1) (nodes left) m)
    ∙ ap (λ (k : ℕ). false ∷ path_of k right) r

pub node_root : (tree : Tree) → node_at tree [] ≡ tree
unfolding node_at
node_root (Elem n vec weight) = refl
node_root (Void n t) = refl
node_root (Join n op left right) = refl

pub with_root : (tree new : Tree) → with_node tree [] new ≡ new
unfolding with_node
with_root (Elem n vec weight) new = refl
with_root (Void n t) new = refl
with_root (Join n op left right) new = refl

pub node_left : (n : List ℕ) (op : Op) (left right : Tree) (path : Path) → node_at (Join n op left right) (true ∷ path) ≡ node_at left path
unfolding node_at
node_left n op left right path = refl

pub node_right : (n : List ℕ) (op : Op) (left right : Tree) (path : Path) → node_at (Join n op left right) (false ∷ path) ≡ node_at right path
unfolding node_at
node_right n op left right path = refl

pub with_left : (n : List ℕ) (op : Op) (left right new : Tree) (path : Path) →
    with_node (Join n op left right) (true ∷ path) new ≡ Join n op (with_node left path new) right
unfolding with_node
with_left n op left right new path = refl

pub with_right : (n : List ℕ) (op : Op) (left right new : Tree) (path : Path) →
    with_node (Join n op left right) (false ∷ path) new ≡ Join n op left (with_node right path new)
unfolding with_node
with_right n op left right new path = refl

-- ---- looking for a number

pub sought_root : (tree : Tree) (at : ℕ) (node : Bor Node) → at ≡ 0 → named node.now ≡ tree → IsSought tree at (Here node)
sought_root tree at node z e =
    let s = some_nodes tree in
    (omega arith, e ∙ sym (ap (λ (k : ℕ). node_at tree (path_of k tree)) z ∙ ap (node_at tree) (path_root tree) ∙ node_root tree))

pub sought_left : (n : List ℕ) (op : Op) (left right : Tree) (at : ℕ) (node : Bor Node) → (at ≡ 0 → ⊥) → IsSought left (at - 1) (Here node) →
    IsSought (Join n op left right) at (Here node)
sought_left n op left right at node z s =
    let e = nodes_join n op left right in
    let a = s.0 in (
      omega arith,
      s.1 ∙ sym (ap (node_at (Join n op left right)) (path_of_left at n op left right (omega arith) s.0)
          ∙ node_left n op left right (path_of (at - 1) left)),
    )

pub sought_right : (n : List ℕ) (op : Op) (left right : Tree) (at rest : ℕ) (found : Sought) → (at ≡ 0 → ⊥) →
    IsSought left (at - 1) (Beyond rest) → IsSought right rest found → IsSought (Join n op left right) at found
sought_right n op left right at rest (Here node) z b s =
    let e = nodes_join n op left right in
    let a = s.0 in (
      omega arith,
      s.1 ∙ sym (ap (node_at (Join n op left right)) (path_of_right at rest n op left right (omega arith) b)
          ∙ node_right n op left right (path_of rest right)),
    )
sought_right n op left right at rest (Beyond more) z b s =
    let e = nodes_join n op left right in
    omega arith

-- ---- exchanging

over_join : (f : Field) (n : List ℕ) (op : OpValue) (l r : Box Node Global) → (op.f ≡ f) → IsOver f l.value → IsOver f r.value →
    IsOver f (views.Join n op l r)
unfolding IsOver
over_join f n op l r a b c = (a, b, c)

over_parts : (f : Field) (n : List ℕ) (op : OpValue) (l r : Box Node Global) → IsOver f (views.Join n op l r) →
    (op.f ≡ f) × IsOver f l.value × IsOver f r.value
unfolding IsOver
over_parts f n op l r o = o

pub exchanged_root : (old now new out : Node) (at : ℕ) → at ≡ 0 → out ≡ old → now ≡ new → IsExchanged old now at new out
exchanged_root old now new out at z e p =
    let s = some_nodes (named old) in
    let path = ap (λ (k : ℕ). path_of k (named old)) z ∙ path_root (named old) in
    record {
      within = omega arith;
      old_part = ap named e ∙ sym (ap (node_at (named old)) path ∙ node_root (named old));
      tree = ap named p ∙ sym (ap (λ (w : Path). with_node (named old) w (named new)) path ∙ with_root (named old) (named new));
      over = λ f a b. (subst (λ (x : Node). IsOver f x) (sym p) b, subst (λ (x : Node). IsOver f x) (sym e) a);
    }

pub exchanged_left : (n : List ℕ) (op : OpValue) (l r : Box Node Global) (l2 new out : Node) (at : ℕ) → (at ≡ 0 → ⊥) →
    IsExchanged l.value l2 (at - 1) new out → IsExchanged (views.Join n op l r) (views.Join n op (with_value l l2) r) at new out
exchanged_left n op l r l2 new out at z x =
    let left = named l.value in
    let right = named r.value in
    let e = nodes_join n op.op left right in
    let whole = named_join n op l r in
    let size = ap nodes whole in
    let w = x.within in
    let path = ap (path_of at) whole ∙ path_of_left at n op.op left right (omega arith) x.within in
    record {
      within = omega arith;
      old_part = x.old_part ∙ sym (ap₂ (λ (t : Tree) (v : Path). node_at t v) whole path ∙ node_left n op.op left right (path_of (at - 1) left));
      tree =
          named_join n op (with_value l l2) r ∙ ap (λ (t : Tree). Join n op.op t right) x.tree
          ∙ sym (ap₂ (λ (t : Tree) (v : Path). with_node t v (named new)) whole path ∙ with_left n op.op left right (named new) (path_of (at - 1) left));
      over = λ f a b.
          let p = over_parts f n op l r a in
          let q = x.over f p.1 b in
          (over_join f n op (with_value l l2) r p.0 q.0 p.2, q.1);
    }

exchanged_right : (n : List ℕ) (op : OpValue) (l r : Box Node Global) (r2 new out : Node) (at rest : ℕ) → (at ≡ 0 → ⊥) →
    at - 1 ≡ nodes (named l.value) + rest → IsExchanged r.value r2 rest new out →
    IsExchanged (views.Join n op l r) (views.Join n op l (with_value r r2)) at new out
exchanged_right n op l r r2 new out at rest z b x =
    let left = named l.value in
    let right = named r.value in
    let e = nodes_join n op.op left right in
    let whole = named_join n op l r in
    let size = ap nodes whole in
    let w = x.within in
    let path = ap (path_of at) whole ∙ path_of_right at rest n op.op left right (omega arith) b in
    record {
      within = omega arith;
      old_part = x.old_part ∙ sym (ap₂ (λ (t : Tree) (v : Path). node_at t v) whole path ∙ node_right n op.op left right (path_of rest right));
      tree =
          named_join n op l (with_value r r2) ∙ ap (λ (t : Tree). Join n op.op left t) x.tree
          ∙ sym (ap₂ (λ (t : Tree) (v : Path). with_node t v (named new)) whole path ∙ with_right n op.op left right (named new) (path_of rest right));
      over = λ f a b.
          let p = over_parts f n op l r a in
          let q = x.over f p.2 b in
          (over_join f n op l (with_value r r2) p.0 p.1 q.0, q.1);
    }

pub spliced_right : (n : List ℕ) (op : OpValue) (l r : Box Node Global) (l2 r2 new out : Node) (at rest : ℕ) (found : Spliced) → (at ≡ 0 → ⊥) →
    l2 ≡ l.value → at - 1 ≡ nodes (named l.value) + rest → IsSpliced r.value r2 rest new out found →
    IsSpliced (views.Join n op l r) (views.Join n op (with_value l l2) (with_value r r2)) at new out found
spliced_right n op l r l2 r2 new out at rest found z same b s =
    subst (λ (x : Node). IsSpliced (views.Join n op l r) (views.Join n op (with_value l x) (with_value r r2)) at new out found) (sym same) (go found s)
  where
    go : (found : Spliced) → IsSpliced r.value r2 rest new out found →
        IsSpliced (views.Join n op l r) (views.Join n op l (with_value r r2)) at new out found
    go spliced.Done s = exchanged_right n op l r r2 new out at rest z b s
    go (spliced.Beyond more) s =
        let e = nodes_join n op.op (named l.value) (named r.value) in
        let size = ap nodes (named_join n op l r) in
        let k = s.2 in
        (s.0, ap (λ (x : Node). views.Join n op l (with_value r x)) s.1, omega arith)

-- ---- weights

first_join : (name : List ℕ) (weight : ℤ) (n : List ℕ) (op : Op) (left right : Tree) → with_first_weight name weight (Join n op left right)
    ≡ (if is_one_of name (element_names left) then Join n op (with_first_weight name weight left) right else Join n op left (with_first_weight name weight right))
unfolding with_first_weight
first_join name weight n op left right = refl

over_leaf_same : (f : Field) (weight : ℤ) (l : leaves.Leaf) → IsOver f (nodes_of.Leaf l) → IsOver f (nodes_of.Leaf (reweighted weight l))
unfolding IsOver boundary
over_leaf_same f weight l o = go l.item o
  where
    go : (item : Option Item) → IsOver f (nodes_of.Leaf (record l { item = item })) → IsOver f (nodes_of.Leaf (record l { item = item_with weight item }))
    go None o = o
    go (Some item) o = o

-- either of two leaves
either : (P : leaves.Leaf → Type 0) (a b : leaves.Leaf) (c : Bool) → P a → P b → P (if c then a else b)
either P a b true p q = p
either P a b false p q = q

leaf_tree : (name : List ℕ) (weight : ℤ) (l : leaves.Leaf) →
    named_leaf (if is_some l.item && bytes_eq name l.name then reweighted weight l else l) ≡ with_first_weight name weight (named_leaf l)
unfolding with_first_weight
leaf_tree name weight l = go l.item (bytes_eq name l.name) refl
  where
    all : Option Item → leaves.Leaf
    all item = record l { item = item }

    go : (item : Option Item) (b : Bool) → bytes_eq name l.name ≡ b →
        named_leaf (if is_some item && b then reweighted weight (all item) else all item) ≡ with_first_weight name weight (named_leaf (all item))
    go None b e = refl
    go (Some item) true e = sym (ap (λ (x : Bool). if x then Elem l.name item.vec weight else Elem l.name item.vec item.weight) e)
    go (Some item) false e = sym (ap (λ (x : Bool). if x then Elem l.name item.vec weight else Elem l.name item.vec item.weight) e)

pub reweighted_leaf : (name : List ℕ) (weight : ℤ) (l l2 : leaves.Leaf) (before : Option ℤ) → before ≡ weight_named name (named_leaf l) →
    is_some before ≡ (is_some l.item && bytes_eq name l.name) → l2 ≡ (if is_some before then reweighted weight l else l) →
    IsReweighted name weight (nodes_of.Leaf l) (nodes_of.Leaf l2) before
unfolding named field_of
reweighted_leaf name weight l l2 before a b p = record {
  found = b ∙ sym (leaf_is_element name l);
  answer = a;
  tree = ap named_leaf (p ∙ ap (λ (c : Bool). if c then reweighted weight l else l) b) ∙ leaf_tree name weight l;
  over = λ f o. subst (λ (x : leaves.Leaf). IsOver f (nodes_of.Leaf x)) (sym p)
      (either (λ x. IsOver f (nodes_of.Leaf x)) (reweighted weight l) l (is_some before) (over_leaf_same f weight l o) o);
  field = ap (λ (x : leaves.Leaf). x.field) p ∙ either (λ x. x.field ≡ l.field) (reweighted weight l) l (is_some before) refl refl;
  kept = λ q. ap (λ (x : leaves.Leaf). nodes_of.Leaf x) (p ∙ ap (λ (o : Option ℤ). if is_some o then reweighted weight l else l) q);
}

field_join : (n : List ℕ) (op : OpValue) (l r : Box Node Global) → field_of (views.Join n op l r) ≡ op.f
unfolding field_of
field_join n op l r = refl

weight_join : (name n : List ℕ) (op : Op) (left right : Tree) →
    weight_named name (Join n op left right) ≡ first_weight (weight_named name left) (weight_named name right)
unfolding weight_named
weight_join name n op left right = refl

pub reweighted_left : (name : List ℕ) (weight before : ℤ) (n : List ℕ) (op : OpValue) (l r : Box Node Global) (l2 : Node) →
    IsReweighted name weight l.value l2 (Some before) →
    IsReweighted name weight (views.Join n op l r) (views.Join n op (with_value l l2) r) (Some before)
reweighted_left name weight before n op l r l2 x =
    let left = named l.value in
    let right = named r.value in
    let whole = named_join n op l r in
    record {
      found =
          sym (ap (λ (t : Tree). is_one_of name (element_names t)) whole ∙ join_has_element name n op.op left right
          ∙ ap (λ (b : Bool). b || is_one_of name (element_names right)) (sym x.found));
      answer =
          sym (ap (weight_named name) whole ∙ weight_join name n op.op left right
          ∙ ap (λ (o : Option ℤ). first_weight o (weight_named name right)) (sym x.answer));
      tree =
          named_join n op (with_value l l2) r ∙ ap (λ (t : Tree). Join n op.op t right) x.tree
          ∙ sym (ap (with_first_weight name weight) whole ∙ first_join name weight n op.op left right
          ∙ ap (λ (b : Bool). if b then Join n op.op (with_first_weight name weight left) right else Join n op.op left (with_first_weight name weight right))
          (sym x.found));
      over = λ f o.
          let p = over_parts f n op l r o in
          over_join f n op (with_value l l2) r p.0 (x.over f p.1) p.2;
      field = field_join n op (with_value l l2) r ∙ sym (field_join n op l r);
      kept = λ q. cc;
    }

pub reweighted_right : (name : List ℕ) (weight : ℤ) (n : List ℕ) (op : OpValue) (l r : Box Node Global) (l2 r2 : Node) (before : Option ℤ) →
    IsReweighted name weight l.value l2 None → IsReweighted name weight r.value r2 before →
    IsReweighted name weight (views.Join n op l r) (views.Join n op (with_value l l2) (with_value r r2)) before
reweighted_right name weight n op l r l2 r2 before y x =
    subst (λ (z : Node). IsReweighted name weight (views.Join n op l r) (views.Join n op (with_value l z) (with_value r r2)) before)
    (sym (y.kept refl)) here
  where
    here : IsReweighted name weight (views.Join n op l r) (views.Join n op l (with_value r r2)) before
    here =
        let left = named l.value in
        let right = named r.value in
        let whole = named_join n op l r in
        record {
          found =
              sym (ap (λ (t : Tree). is_one_of name (element_names t)) whole ∙ join_has_element name n op.op left right
              ∙ ap (λ (b : Bool). b || is_one_of name (element_names right)) (sym y.found) ∙ sym x.found);
          answer =
              sym (ap (weight_named name) whole ∙ weight_join name n op.op left right
              ∙ ap (λ (o : Option ℤ). first_weight o (weight_named name right)) (sym y.answer) ∙ sym x.answer);
          tree =
              named_join n op l (with_value r r2) ∙ ap (λ (t : Tree). Join n op.op left t) x.tree
              ∙ sym (ap (with_first_weight name weight) whole ∙ first_join name weight n op.op left right
              ∙ ap (λ (b : Bool). if b then Join n op.op (with_first_weight name weight left) right else Join n op.op left (with_first_weight name weight right))
              (sym y.found));
          over = λ f o.
              let p = over_parts f n op l r o in
              over_join f n op l (with_value r r2) p.0 p.1 (x.over f p.2);
          field = field_join n op l (with_value r r2) ∙ sym (field_join n op l r);
          kept = λ q. ap (λ (z : Node). views.Join n op l (with_value r z)) (x.kept q);
        }
