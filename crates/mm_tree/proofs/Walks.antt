-- What is read off the nodes of a tree.
use Rattle.std.proofs.Common.{ℕ, ◌≡◌, ◌||◌, ◌&&◌, Bool, true, false, List, [], ◌∷◌, refl, ap, ◌∙◌, Option, Some, None, if◌then◌else◌, Box, Global}
use Rattle.std.specs.Option.{is_some}
use Rattle.std.specs.Str.{bytes_eq}
use Rattle.std.proofs.lemmas.List.Folds.{list_any-append}
use Rattle.std.proofs.Math.Bool.{or-false}
use Rattle.mm_logic.specs.Operator.{Op}
use Rattle.mm_tree.specs.NamedTree.{Tree, depth, nodes, node_names, leaf_names, element_names, is_one_of}
use Rattle.mm_tree.specs.NamedTree.Tree.{Join}
use Rattle.mm_tree.specs.Nodes.{named, named_leaf}
use Rattle.mm_tree.specs.Weights.{weight_named}
use Rattle.mm_tree.specs.declared.node.Item.{Item}
use Rattle.mm_tree.specs.declared.node.Leaf as leaves
use Rattle.mm_tree.specs.declared.node.Node as nodes_of
use Rattle.mm_tree.specs.declared.node.Node.TheViews as views
use Rattle.mm_ops.specs.OpValue.{OpValue}

pub leaf_depth : (l : leaves.Leaf) → depth (named_leaf l) ≡ 0
unfolding depth
leaf_depth l = go l.item
  where
    go : (item : Option Item) → depth (named_leaf (record l { item = item })) ≡ 0
    go None = refl
    go (Some item) = refl

pub leaf_nodes : (l : leaves.Leaf) → nodes (named_leaf l) ≡ 1
unfolding nodes
leaf_nodes l = go l.item
  where
    go : (item : Option Item) → nodes (named_leaf (record l { item = item })) ≡ 1
    go None = refl
    go (Some item) = refl

pub leaf_node_name : (l : leaves.Leaf) → node_names (named_leaf l) ≡ l.name ∷ []
unfolding node_names
leaf_node_name l = go l.item
  where
    go : (item : Option Item) → node_names (named_leaf (record l { item = item })) ≡ l.name ∷ []
    go None = refl
    go (Some item) = refl

pub leaf_name : (l : leaves.Leaf) → leaf_names (named_leaf l) ≡ l.name ∷ []
unfolding leaf_names
leaf_name l = go l.item
  where
    go : (item : Option Item) → leaf_names (named_leaf (record l { item = item })) ≡ l.name ∷ []
    go None = refl
    go (Some item) = refl

pub leaf_has : (name : List ℕ) (l : leaves.Leaf) → is_one_of name (leaf_names (named_leaf l)) ≡ bytes_eq name l.name
leaf_has name l = ap (is_one_of name) (leaf_name l) ∙ or-false (bytes_eq name l.name)

pub join_has : (name n : List ℕ) (op : Op) (left right : Tree) →
    is_one_of name (leaf_names (Join n op left right)) ≡ (is_one_of name (leaf_names left) || is_one_of name (leaf_names right))
unfolding leaf_names
join_has name n op left right = list_any-append (bytes_eq name) (leaf_names left) (leaf_names right)

pub leaf_is_element : (name : List ℕ) (l : leaves.Leaf) →
    is_one_of name (element_names (named_leaf l)) ≡ (is_some l.item && bytes_eq name l.name)
unfolding element_names
leaf_is_element name l = go l.item
  where
    go : (item : Option Item) →
        is_one_of name (element_names (named_leaf (record l { item = item }))) ≡ (is_some item && bytes_eq name l.name)
    go None = refl
    go (Some item) = or-false (bytes_eq name l.name)

pub join_has_element : (name n : List ℕ) (op : Op) (left right : Tree) →
    is_one_of name (element_names (Join n op left right)) ≡ (is_one_of name (element_names left) || is_one_of name (element_names right))
unfolding element_names
join_has_element name n op left right = list_any-append (bytes_eq name) (element_names left) (element_names right)

pub element_weight : (name : List ℕ) (l : leaves.Leaf) (item : Item) → l.item ≡ Some item →
    weight_named name (named_leaf l) ≡ (if bytes_eq name l.name then Some item.weight else None)
unfolding weight_named
element_weight name l item e =
    ap (λ (i : Option Item). weight_named name (named_leaf (record l { item = i }))) e

pub no_weight : (name : List ℕ) (l : leaves.Leaf) → l.item ≡ None → weight_named name (named_leaf l) ≡ None
unfolding weight_named
no_weight name l e = ap (λ (i : Option Item). weight_named name (named_leaf (record l { item = i }))) e

pub own_weight : (name : List ℕ) (l : leaves.Leaf) (item : Item) → l.item ≡ Some item → bytes_eq name l.name ≡ true →
    weight_named name (named_leaf l) ≡ Some item.weight
own_weight name l item e same = element_weight name l item e ∙ ap (λ (b : Bool). if b then Some item.weight else None) same

pub other_weight : (name : List ℕ) (l : leaves.Leaf) → bytes_eq name l.name ≡ false → weight_named name (named_leaf l) ≡ None
unfolding weight_named
other_weight name l e = go l.item
  where
    go : (item : Option Item) → weight_named name (named_leaf (record l { item = item })) ≡ None
    go None = refl
    go (Some item) = ap (λ (b : Bool). if b then Some item.weight else None) e

-- ---- a node as a leaf or a join

pub named_of_leaf : (l : leaves.Leaf) → named (nodes_of.Leaf l) ≡ named_leaf l
unfolding named
named_of_leaf l = refl

pub named_join : (name : List ℕ) (op : OpValue) (l r : Box nodes_of.Node Global) →
    named (views.Join name op l r) ≡ Join name op.op (named l.value) (named r.value)
unfolding named
named_join name op l r = refl
