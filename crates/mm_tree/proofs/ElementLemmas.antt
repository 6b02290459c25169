-- The names of the elements of a tree.
use Rattle.std.proofs.Common.{◌+◌, ◌≤◌, ◌≡◌, arith, [], ◌∷◌, length, refl, ap, ap₂, ◌∙◌, length-append, Option, Some, None}
use Rattle.std.proofs.lemmas.Bool.{false_from_ne_true, both_ways}
use Rattle.std.specs.List.{IsDistinct}
use Rattle.std.specs.Str.{bytes_eq}
use Rattle.mm_logic.specs.Tree as shapes
use Rattle.mm_tree.specs.NamedTree.{Tree, shape, leaf_names, element_names, is_one_of}
use Rattle.mm_tree.specs.NamedTree.Tree.{Elem, Void, Join}
use Rattle.mm_tree.specs.Nodes.{named_leaf}
use Rattle.mm_tree.specs.declared.node.Item.{Item}
use Rattle.mm_tree.specs.declared.node.Leaf as leaves
use Rattle.mm_tree.proofs.NameLemmas.{distinct_left, distinct_right, distinct_apart, distinct_append}
use Rattle.mm_tree.proofs.TreeLemmas.{element_is_leaf}

pub element_name : (l : leaves.Leaf) (item : Item) → l.item ≡ Some item → element_names (named_leaf l) ≡ l.name ∷ []
unfolding element_names
element_name l item e = ap (λ (i : Option Item). element_names (named_leaf (record l { item = i }))) e

pub no_element : (l : leaves.Leaf) → l.item ≡ None → element_names (named_leaf l) ≡ []
unfolding element_names
no_element l e = ap (λ (i : Option Item). element_names (named_leaf (record l { item = i }))) e

pub count_elements : (T : Tree) → length (element_names T) ≡ shapes.size (shape T)
unfolding element_names shape
count_elements (Elem name vec weight) = refl
count_elements (Void name t) = refl
count_elements (Join name op l r) = length-append (element_names l) (element_names r) ∙ ap₂ (λ a b. a + b) (count_elements l) (count_elements r)

-- there are at most as many elements as leaves
pub few_elements : (T : Tree) → length (element_names T) ≤ length (leaf_names T)
unfolding element_names leaf_names
few_elements (Elem name vec weight) = omega arith
few_elements (Void name t) = omega arith
few_elements (Join name op l r) =
    let a = few_elements l in
    let b = few_elements r in
    let e = length-append (element_names l) (element_names r) in
    let g = length-append (leaf_names l) (leaf_names r) in
    omega arith

-- the names of the elements of a tree are different
pub different_elements : (T : Tree) → IsDistinct bytes_eq (leaf_names T) → IsDistinct bytes_eq (element_names T)
unfolding element_names leaf_names IsDistinct
different_elements (Elem name vec weight) d = d
different_elements (Void name t) d = tt
different_elements (Join name op l r) d =
    let apart = distinct_apart (leaf_names l) (leaf_names r) d in
    distinct_append (element_names l) (element_names r)
    (different_elements l (distinct_left (leaf_names l) (leaf_names r) d)) (different_elements r (distinct_right (leaf_names l) (leaf_names r) d))
    (λ x e. false_from_ne_true (is_one_of x (element_names r)) (λ f.
    both_ways (is_one_of x (leaf_names r)) (apart x (element_is_leaf x l e)) (element_is_leaf x r f)))
