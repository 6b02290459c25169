-- Stacks of trees that are not joined yet.
use Rattle.std.proofs.Common.{ℕ, ℤ, ◌≡◌, ◌≤◌, ◌+◌, ◌++◌, ◌||◌, nat_abs, nat_le, Bool, true, false, not, List, [], ◌∷◌, length, map, reverse, refl, sym, ap, ap₂, ◌∙◌, subst, Some, None, if◌then◌else◌, arith, length-append, append_assoc, max, ◌==◌, Box, Global}
use Rattle.std.proofs.lemmas.List.{map-append, reverse-append}
use Rattle.std.specs.List.{All, IsDistinct, list_any}
use Rattle.std.specs.Str.{bytes_eq}
use Rattle.std.proofs.lemmas.List.Elements.{All-append, All-cons, All-nil, All-head, All-tail}
use Rattle.indexmap.specs.IndexSet.{insert_key}
use Rattle.mm_base.specs.contracts.name.NamePartialEq.TheImpl.{eq-value}
use Rattle.mm_base.proofs.NameLemmas.{name_eq, same_bytes}
use Rattle.mm_base.specs.Names.{is_name}
use Rattle.mm_field.specs.declared.Field.{Field}
use Rattle.mm_logic.specs.Operator.{IsValidOp}
use Rattle.mm_ops.specs.OpValue.{OpValue}
use Rattle.mm_ops.specs.Tables.{OperatorList, op_named}
use Rattle.mm_tree.specs.NamedTree.Tree.{Join}
use Rattle.mm_tree.specs.declared.node.Node.TheViews as views
use Rattle.std.proofs.lemmas.Bool.{eqb-true, leb-false, both_ways, or_from}
use Rattle.mm_tree.specs.Building.{AreOver, names_in, leaf_fault, pair_fault, join_fault, joined}
use Rattle.mm_tree.specs.BuilderView.{IsStackEntry, IsGoodLeaf, tree_of, trees_of}
use Rattle.mm_tree.specs.NamedTree.{Tree, shape, boundary, node_names, leaf_names, weights, depth, is_one_of}
use Rattle.mm_field.specs.Vectors.{AreDigits}
use Rattle.mm_tree.specs.Nodes.{named, named_leaf, IsOver, field_of}
use Rattle.mm_tree.specs.ValidTree.{AreNames, most_leaves, most_depth, most_weight}
use Rattle.mm_tree.specs.declared.builder.BuildFault.TheVariants.{NameTaken, TooManyLeaves, Boundary, TooDeep}
use Rattle.mm_tree.specs.declared.builder.StackEntry.{StackEntry}
use Rattle.mm_tree.specs.declared.node.Leaf.{Leaf}
use Rattle.mm_tree.specs.declared.node.Node as nodes_of
use Rattle.mm_logic.specs.Tree.{IsValid}
use Rattle.mm_tree.proofs.NameLemmas.{distinct_append}
use Rattle.mm_tree.proofs.Walks.{leaf_name, leaf_node_name, leaf_depth}
use Rattle.mm_tree.specs.TreeView.{Stands}
use Rattle.mm_tree.proofs.TreeLemmas.{shape_boundary, join_names, stands}

pub any_name : (name : List ℕ) (names : List (List ℕ)) → list_any ((eq-value).it name) names ≡ is_one_of name names
any_name name [] = refl
any_name name (n ∷ names) = ap₂ (λ (a b : Bool). a || b) (name_eq name n) (any_name name names)

pub trees_push : (items : List StackEntry) (g : StackEntry) → trees_of (items ++ g ∷ []) ≡ tree_of g ∷ trees_of items
trees_push items g = ap reverse (map-append tree_of items (g ∷ [])) ∙ reverse-append (map tree_of items) (tree_of g ∷ [])

pub insert_new : (names : List (List ℕ)) (name : List ℕ) → is_one_of name names ≡ false → insert_key (eq-value).it names name ≡ names ++ name ∷ []
insert_new names name e = ap (λ (b : Bool). if b then names else names ++ name ∷ []) (any_name name names ∙ e)

-- ---- what a leaf is refused for

pub taken_fault : (name : List ℕ) (trees : List Tree) → is_one_of name (names_in trees) ≡ true → leaf_fault name trees ≡ Some (NameTaken name)
taken_fault name trees e =
    ap (λ (b : Bool). if b then Some (NameTaken name) else (if nat_le most_leaves (length (names_in trees)) then Some TooManyLeaves else None)) e

pub full_fault : (name : List ℕ) (trees : List Tree) → is_one_of name (names_in trees) ≡ false → nat_le most_leaves (length (names_in trees)) ≡ true →
    leaf_fault name trees ≡ Some TooManyLeaves
full_fault name trees e f =
    ap₂ (λ (a b : Bool). if a then Some (NameTaken name) else (if b then Some TooManyLeaves else None)) e f

pub no_leaf_fault : (name : List ℕ) (trees : List Tree) → is_one_of name (names_in trees) ≡ false → nat_le most_leaves (length (names_in trees)) ≡ false →
    leaf_fault name trees ≡ None
no_leaf_fault name trees e f =
    ap₂ (λ (a b : Bool). if a then Some (NameTaken name) else (if b then Some TooManyLeaves else None)) e f

pub free_parts : (name : List ℕ) (trees : List Tree) → leaf_fault name trees ≡ None →
    (is_one_of name (names_in trees) ≡ false) × (nat_le most_leaves (length (names_in trees)) ≡ false)
free_parts name trees e = go (is_one_of name (names_in trees)) (nat_le most_leaves (length (names_in trees))) e
  where
    go : (a b : Bool) → (if a then Some (NameTaken name) else (if b then Some TooManyLeaves else None)) ≡ None → (a ≡ false) × (b ≡ false)
    go true b e = cc
    go false true e = cc
    go false false e = (refl, refl)

-- ---- one more leaf

pub one_name : (name : List ℕ) → is_name name ≡ true → AreNames (name ∷ [])
one_name name formed = All-cons (λ n. is_name n ≡ true) name [] formed (All-nil (λ n. is_name n ≡ true))

pub leaf_grown : (f : Field) (l : Leaf) (g : StackEntry) → g.node.value ≡ nodes_of.Leaf l → g.depth ≡ 0 → IsGoodLeaf f l → is_name l.name ≡ true → IsStackEntry f g
unfolding named
leaf_grown f l g e d good formed = record {
  over = subst (λ (x : nodes_of.Node). IsOver f x) (sym e) good.over;
  valid_shape = subst (λ (x : nodes_of.Node). IsValid f (shape (named x))) (sym e) good.valid_shape;
  formed = subst (λ (ns : List (List ℕ)). AreNames ns) (sym (ap (λ (x : nodes_of.Node). node_names (named x)) e ∙ leaf_node_name l)) (one_name l.name formed);
  deep = d ∙ sym (ap (λ (x : nodes_of.Node). depth (named x)) e ∙ leaf_depth l);
  shallow = omega arith;
  light = subst (λ (x : nodes_of.Node). All (λ w. nat_abs w ≤ most_weight) (weights (named x))) (sym e) good.light;
}

pub tree_of_leaf : (l : Leaf) (g : StackEntry) → g.node.value ≡ nodes_of.Leaf l → tree_of g ≡ named_leaf l
unfolding named
tree_of_leaf l g e = ap named e

pub names_push : (items : List StackEntry) (l : Leaf) (g : StackEntry) (names : List (List ℕ)) → g.node.value ≡ nodes_of.Leaf l →
    names ≡ names_in (trees_of items) → names ++ l.name ∷ [] ≡ names_in (trees_of (items ++ g ∷ []))
names_push items l g names e n =
    ap₂ (λ (a b : List (List ℕ)). a ++ b) n (sym (ap leaf_names (tree_of_leaf l g e) ∙ leaf_name l)) ∙ ap names_in (sym (trees_push items g))

pub alone : (x : List ℕ) → IsDistinct bytes_eq (x ∷ [])
unfolding IsDistinct
alone x = (tt, tt)

pub distinct_push : (names : List (List ℕ)) (name : List ℕ) → IsDistinct bytes_eq names → is_one_of name names ≡ false →
    IsDistinct bytes_eq (names ++ name ∷ [])
distinct_push names name d e = distinct_append names (name ∷ []) d (alone name) apart
  where
    apart : (x : List ℕ) → is_one_of x names ≡ true → is_one_of x (name ∷ []) ≡ false
    apart x t = go (bytes_eq x name) refl
      where
        go : (b : Bool) → bytes_eq x name ≡ b → (bytes_eq x name || false) ≡ false
        go true q = absurd (both_ways (is_one_of x names) (ap (λ (y : List ℕ). is_one_of y names) (same_bytes x name q) ∙ e) t)
        go false q = or_from (bytes_eq x name) false q refl

pub none_distinct : IsDistinct bytes_eq []
unfolding IsDistinct
none_distinct = tt

-- ---- leaves that may be added

pub good_void : (f own : Field) (name : List ℕ) (t : ℕ) → own ≡ f → t ≤ 6 → IsGoodLeaf f (record { field = own; name = name; t = t; item = None })
unfolding IsOver shape weights boundary
good_void f own name t e l = record { over = (e, refl); valid_shape = l; light = All-nil (λ w. nat_abs w ≤ most_weight) }

pub good_elem : (f own : Field) (name vec : List ℕ) (t : ℕ) (weight v : ℤ) → v ≡ weight → own ≡ f → t ≡ length vec → AreDigits f vec → length vec ≤ 6 →
    nat_abs weight ≤ most_weight → IsGoodLeaf f (record { field = own; name = name; t = t; item = Some (record { vec = vec; weight = v }) })
unfolding IsOver shape weights boundary
good_elem f own name vec t weight v same e n d l w = record {
  over = (e, n);
  valid_shape = (d, l);
  light = All-cons (λ w. nat_abs w ≤ most_weight) v [] (subst (λ (x : ℤ). nat_abs x ≤ most_weight) (sym same) w) (All-nil (λ w. nat_abs w ≤ most_weight));
}

-- ---- the one tree

pub alone_there : (items rest : List StackEntry) (g : StackEntry) → items ≡ rest ++ g ∷ [] → length items ≡ 1 → rest ≡ []
alone_there items [] g e l = refl
alone_there items (x ∷ rest) g e l =
    let a = ap (λ (xs : List StackEntry). length xs) e in
    let b = length-append rest (g ∷ []) in
    let no : ⊥ = omega arith in
    absurd no

pub one_tree : (items rest : List StackEntry) (g : StackEntry) → items ≡ rest ++ g ∷ [] → length items ≡ 1 → trees_of items ≡ tree_of g ∷ []
one_tree items rest g e l = ap trees_of e ∙ trees_push rest g ∙ ap (λ (xs : List StackEntry). tree_of g ∷ trees_of xs) (alone_there items rest g e l)

pub one_grown : (f : Field) (items rest : List StackEntry) (g : StackEntry) → items ≡ rest ++ g ∷ [] → length items ≡ 1 → All (λ x. IsStackEntry f x) items → IsStackEntry f g
one_grown f items rest g e l h =
    All-head (λ x. IsStackEntry f x) g []
    (subst (λ (xs : List StackEntry). All (λ x. IsStackEntry f x) xs) (e ∙ ap (λ (xs : List StackEntry). xs ++ g ∷ []) (alone_there items rest g e l)) h)

pub grown_stands : (f : Field) (g : StackEntry) (names : List (List ℕ)) (node : nodes_of.Node) → node ≡ g.node.value → IsStackEntry f g → names ≡ leaf_names (tree_of g) →
    IsDistinct bytes_eq names → length names ≤ most_leaves → Stands (field_of node) node
grown_stands f g names node e grown n d l =
    subst (λ (x : nodes_of.Node). Stands (field_of x) x) (sym e) (stands f g.node.value grown.over (record {
      valid_shape = grown.valid_shape;
      formed = grown.formed;
      different = subst (λ (ns : List (List ℕ)). IsDistinct bytes_eq ns) n d;
      few = subst (λ (ns : List (List ℕ)). length ns ≤ most_leaves) n l;
      shallow = (let a = grown.deep in let b = grown.shallow in omega arith);
      light = grown.light;
    }))

-- ---- a join

pub over_named : (f : Field) (name : List ℕ) (entries : OperatorList) (op : OpValue) → AreOver f entries → op_named name entries ≡ Some op → op.f ≡ f
over_named f name [] op o e = cc
over_named f name (entry ∷ entries) op o e = go (bytes_eq name entry.0) e (over_named f name entries op o.1)
  where
    go : (b : Bool) → (if b then Some entry.1 else op_named name entries) ≡ Some op → (op_named name entries ≡ Some op → op.f ≡ f) → op.f ≡ f
    go true e more = sym (ap (λ (x : OpValue). x.f) (same entry.1 op e)) ∙ o.0
      where
        same : (a b : OpValue) → Some a ≡ Some b → a ≡ b
        same a b e = cc
    go false e more = more e

pub pair_parts : (op : OpValue) (left right : Tree) → pair_fault op left right ≡ None →
    (boundary left ≡ op.op.t1) × (boundary right ≡ op.op.t2) × (nat_le most_depth (max (depth left) (depth right)) ≡ false)
pair_parts op left right e =
    let p = go (boundary left == op.op.t1) (boundary right == op.op.t2) (nat_le most_depth (max (depth left) (depth right))) e in
    (eqb-true (boundary left) op.op.t1 p.0, eqb-true (boundary right) op.op.t2 p.1, p.2)
  where
    go : (a b d : Bool) →
        (if not a then Some (Boundary op.op.t1 (boundary left)) else (
        if not b then Some (Boundary op.op.t2 (boundary right)) else (if d then Some TooDeep else None))) ≡ None →
        (a ≡ true) × (b ≡ true) × (d ≡ false)
    go true true false e = (refl, refl, refl)
    go true true true e = cc
    go true false d e = cc
    go false b d e = cc

abbrev join_node : List ℕ → OpValue → Box nodes_of.Node Global → Box nodes_of.Node Global → nodes_of.Node
join_node name op l r = views.Join name op l r

pub join_grown : (f : Field) (name : List ℕ) (op : OpValue) (l r g : StackEntry) → is_name name ≡ true → op.f ≡ f → IsValidOp op.f op.op → IsStackEntry f l → IsStackEntry f r →
    pair_fault op (tree_of l) (tree_of r) ≡ None → g.node.value ≡ join_node name op l.node r.node → g.depth ≡ max l.depth r.depth + 1 → IsStackEntry f g
unfolding IsOver shape weights depth named
join_grown f name op l r g formed e valid gl gr none node deep =
    let p = pair_parts op (tree_of l) (tree_of r) none in
    let d : g.depth ≡ max (depth (tree_of l)) (depth (tree_of r)) + 1 = deep ∙ ap₂ (λ (a b : ℕ). max a b + 1) gl.deep gr.deep in
    let low = leb-false most_depth (max (depth (tree_of l)) (depth (tree_of r))) p.2 in
    record {
      over = subst (λ (x : nodes_of.Node). IsOver f x) (sym node) (e, gl.over, gr.over);
      valid_shape = subst (λ (x : nodes_of.Node). IsValid f (shape (named x))) (sym node) (
        subst (λ (x : Field). IsValidOp x op.op) e valid,
        shape_boundary (tree_of l) ∙ p.0,
        shape_boundary (tree_of r) ∙ p.1,
        gl.valid_shape,
        gr.valid_shape,
      );
      formed = subst (λ (x : nodes_of.Node). AreNames (node_names (named x))) (sym node)
          (join_names name op.op (tree_of l) (tree_of r) formed gl.formed gr.formed);
      deep = d ∙ sym (ap (λ (x : nodes_of.Node). depth (named x)) node);
      shallow = omega arith;
      light = subst (λ (x : nodes_of.Node). All (λ w. nat_abs w ≤ most_weight) (weights (named x))) (sym node)
          (All-append (λ w. nat_abs w ≤ most_weight) (weights (tree_of l)) (weights (tree_of r)) gl.light gr.light);
    }

pub tree_of_join : (name : List ℕ) (op : OpValue) (l r g : StackEntry) → g.node.value ≡ join_node name op l.node r.node →
    tree_of g ≡ Join name op.op (tree_of l) (tree_of r)
unfolding named
tree_of_join name op l r g e = ap named e

-- the stack before and after a join
pub two_trees : (items rest front : List StackEntry) (l r : StackEntry) → items ≡ rest ++ r ∷ [] → rest ≡ front ++ l ∷ [] →
    trees_of items ≡ tree_of r ∷ tree_of l ∷ trees_of front
two_trees items rest front l r e p = ap trees_of e ∙ trees_push rest r ∙ ap (λ (ts : List Tree). tree_of r ∷ ts) (ap trees_of p ∙ trees_push front l)

pub joined_trees : (items rest front now : List StackEntry) (name : List ℕ) (op : OpValue) (l r g : StackEntry) → items ≡ rest ++ r ∷ [] → rest ≡ front ++ l ∷ [] →
    now ≡ front ++ g ∷ [] → g.node.value ≡ join_node name op l.node r.node → trees_of now ≡ joined name op (trees_of items)
joined_trees items rest front now name op l r g e p q node =
    ap trees_of q ∙ trees_push front g ∙ ap (λ (t : Tree). t ∷ trees_of front) (tree_of_join name op l r g node)
    ∙ sym (ap (joined name op) (two_trees items rest front l r e p))

pub joined_names : (name : List ℕ) (op : OpValue) (right left : Tree) (trees : List Tree) →
    names_in (joined name op (right ∷ left ∷ trees)) ≡ names_in (right ∷ left ∷ trees)
unfolding leaf_names
joined_names name op right left trees = sym (append_assoc (names_in trees) (leaf_names left) (leaf_names right))

pub names_after : (items rest front now : List StackEntry) (name : List ℕ) (op : OpValue) (l r g : StackEntry) → items ≡ rest ++ r ∷ [] → rest ≡ front ++ l ∷ [] →
    now ≡ front ++ g ∷ [] → g.node.value ≡ join_node name op l.node r.node → names_in (trees_of items) ≡ names_in (trees_of now)
names_after items rest front now name op l r g e p q node =
    let two = two_trees items rest front l r e p in
    sym (ap names_in (joined_trees items rest front now name op l r g e p q node) ∙ ap (λ (ts : List Tree). names_in (joined name op ts)) two
    ∙ joined_names name op (tree_of r) (tree_of l) (trees_of front) ∙ sym (ap names_in two))

pub grown_last : (f : Field) (rest : List StackEntry) (g : StackEntry) → All (λ x. IsStackEntry f x) (rest ++ g ∷ []) → IsStackEntry f g × All (λ x. IsStackEntry f x) rest
grown_last f [] g h = (All-head (λ x. IsStackEntry f x) g [] h, All-nil (λ x. IsStackEntry f x))
grown_last f (x ∷ rest) g h =
    let p = grown_last f rest g (All-tail (λ x. IsStackEntry f x) x (rest ++ g ∷ []) h) in
    (p.0, All-cons (λ x. IsStackEntry f x) x rest (All-head (λ x. IsStackEntry f x) x (rest ++ g ∷ []) h) p.1)

pub all_after : (f : Field) (items rest front now : List StackEntry) (name : List ℕ) (op : OpValue) (l r g : StackEntry) → items ≡ rest ++ r ∷ [] → rest ≡ front ++ l ∷ [] →
    now ≡ front ++ g ∷ [] → is_name name ≡ true → op.f ≡ f → IsValidOp op.f op.op → join_fault op (trees_of items) ≡ None → g.node.value ≡ join_node name op l.node r.node →
    g.depth ≡ max l.depth r.depth + 1 → All (λ x. IsStackEntry f x) items → All (λ x. IsStackEntry f x) now
all_after f items rest front now name op l r g e p q formed same valid none node deep h =
    let a = grown_last f rest r (subst (λ (xs : List StackEntry). All (λ x. IsStackEntry f x) xs) e h) in
    let b = grown_last f front l (subst (λ (xs : List StackEntry). All (λ x. IsStackEntry f x) xs) p a.1) in
    let pair = sym (ap (join_fault op) (two_trees items rest front l r e p)) ∙ none in
    subst (λ (xs : List StackEntry). All (λ x. IsStackEntry f x) xs) (sym q)
    (All-append (λ x. IsStackEntry f x) front (g ∷ []) b.1
    (All-cons (λ x. IsStackEntry f x) g [] (join_grown f name op l r g formed same valid b.0 a.0 pair node deep) (All-nil (λ x. IsStackEntry f x))))
